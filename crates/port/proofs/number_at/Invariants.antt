use mathlib.Core.Path.{◌≡◌}
use Rattle.port.specs.Bytes.{value_at}
use Rattle.port.proofs.number_at.Given as goal

abbrev pub invariant-loop-i : goal.invariant-loop-i
invariant-loop-i l = l.x ≡ value_at 2 l.s l.at l.i
