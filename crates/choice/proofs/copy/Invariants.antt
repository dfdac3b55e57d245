use mathlib.Core.Path.{◌≡◌}
use lib.ListN.{length, take}
use Rattle.answer.specs.Fronts.{over}
use Rattle.choice.proofs.copy.Given as goal

abbrev pub invariant-loop-i : goal.invariant-loop-i
invariant-loop-i l = (l.row ≡ over (take l.i l.wires) l.initial.row) × (length l.row ≡ length l.initial.row)
