use mathlib.Core.Path.{refl}
use native.Mathlib.Numerals.{add-one}
use native.Mathlib.Nat.{le_antisymm}
use Rattle.answer.specs.Bits.{or_all}
use Rattle.answer.proofs.or_all.Goals as goal

pub loop-x-init : goal.loop-x-init
unfolding or_all
loop-x-init c = refl

pub loop-x-preserved : goal.loop-x-preserved
unfolding or_all
loop-x-preserved c = rw (add-one, ← c.loop-x.invariant)

pub returns : goal.returns
returns c = rw (← (le_antisymm c.loop-x.auto.x-index-end c.loop-x-test.false)) c.loop-x.invariant
