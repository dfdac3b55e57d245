use mathlib.Core.Path.{sym, ◌∙◌}
use native.Mathlib.Omega.{arith}
use Rattle.emit.proofs.RowsTable.{bit_five, bit_plain}
use Rattle.emit.proofs.rows.bit_gates.Goals as goal

pub returns-then-instance-eq5 : goal.returns-then-instance-eq5
returns-then-instance-eq5 c = (sym (bit_five _ c.if-instance-eq5.true), omega arith)

pub returns : goal.returns
returns c = (c.row_bits.ensures.0 ∙ bit_plain _ c.if-instance-eq5.false, c.row_bits.ensures.1)
