use mathlib.Core.Path.{◌≡◌}
use lib.ListN.{length, take}
use Rattle.answer.specs.Fronts.{over}
use Rattle.evaluate.proofs.put_inputs.Given as goal

abbrev pub invariant-loop-i : goal.invariant-loop-i
invariant-loop-i l = (l.values ≡ over (take l.i l.inputs) l.initial.values) × (length l.values ≡ length l.initial.values)
