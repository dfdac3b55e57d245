use borrow.Author.Tests.{eq-eqb, ne_eqb}
use native.Mathlib.Omega.{arith}
use Rattle.instance.specs.Table.{white_bits}
use Rattle.instance.proofs.Judged.{below}
use borrow.Author.Rules.{rules}
use Rattle.instance.proofs.whitening_bits.Goals as goal

pub returns-then-instance-eq6 : goal.returns-then-instance-eq6
unfolding white_bits
returns-then-instance-eq6 c = rw (eq-eqb _ _ c.if-instance-eq6.true)

pub overflow_mul-result : goal.overflow_mul-result
overflow_mul-result c = record { fits = below 32 (search rules) (omega (arith, c.row_bits.ensures.1)) }

pub returns : goal.returns
unfolding white_bits
returns c = rw (ne_eqb _ _ c.if-instance-eq6.false, c.row_bits.ensures.0)
