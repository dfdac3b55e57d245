use mathlib.Core.Path.{◌≡◌}
use lib.ListN.{length}
use Rattle.answer.specs.Fronts.{over}
use Rattle.choice.specs.Choice.{up_to}
use Rattle.choice.proofs.fill.Given as goal

abbrev pub invariant-loop-i : goal.invariant-loop-i
invariant-loop-i l = (l.wires ≡ over (up_to l.i) l.initial.wires) × (length l.wires ≡ length l.initial.wires)
