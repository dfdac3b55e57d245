use mathlib.Core.Path.{◌≡◌}
use lib.ListN.{length, take}
use Rattle.answer.specs.Fronts.{over}
use Rattle.glue.proofs.copy.Given as goal

abbrev pub invariant-loop-i : goal.invariant-loop-i
invariant-loop-i l = (l.out ≡ over (take l.i l.from) l.initial.out) × (length l.out ≡ length l.initial.out)
