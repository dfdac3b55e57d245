use mathlib.Core.Path.{◌≡◌}
use Rattle.answer.specs.Fronts.{over}
use Rattle.filter.specs.Filter.{tab}
use Rattle.port.proofs.Layouts.{high_bit}
use Rattle.port.proofs.put_number.Given as goal

abbrev pub invariant-loop-i : goal.invariant-loop-i
invariant-loop-i l = l.out ≡ over (tab (high_bit l.n l.x) l.i) l.initial.out
