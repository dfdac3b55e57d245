use mathlib.Core.Path.{◌≡◌}
use Rattle.evaluate.specs.Inner.{gates_put}
use Rattle.evaluate.proofs.put_gates.Given as goal

abbrev pub invariant-loop-g : goal.invariant-loop-g
invariant-loop-g l = l.values ≡ gates_put l.net l.inputs l.g l.initial.values
