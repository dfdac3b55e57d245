use mathlib.Core.Path.{◌≡◌}
use Rattle.answer.specs.Fronts.{over}
use Rattle.cipher.specs.InnerVariables.{stream_rows}
use Rattle.cipher.proofs.rows.Rows.put_bits.Given as goal

abbrev pub invariant-loop-i : goal.invariant-loop-i
invariant-loop-i l = l.out ≡ over (stream_rows l.self l.i) l.initial.out
