use mathlib.Core.Path.{◌≡◌}
use Rattle.answer.specs.Bits.{or_all}
use Rattle.answer.proofs.or_all.Given as goal

abbrev pub invariant-loop-x : goal.invariant-loop-x
invariant-loop-x l = l.all ≡ or_all l.s l.x-index
