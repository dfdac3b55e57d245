use mathlib.Core.Path.{◌≡◌}
use Rattle.answer.specs.Fronts.{over}
use Rattle.meter.specs.InnerDepths.{depths_to}
use Rattle.meter.proofs.put_gates.Given as goal

abbrev pub invariant-loop-g : goal.invariant-loop-g
invariant-loop-g l = l.depths ≡ over (depths_to l.net l.g) l.initial.depths
