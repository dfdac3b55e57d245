use mathlib.Core.Path.{refl}
use native.Mathlib.Omega.{arith}
use Rattle.choice.proofs.Swaps.{fill_none, fill_more}
use borrow.Author.Rules.{rules}
use Rattle.choice.proofs.fill.Goals as goal

pub loop-i-init : goal.loop-i-init
loop-i-init c = (fill_none _, refl)

pub loop-i-preserved : goal.loop-i-preserved
loop-i-preserved c = (rw c.loop-i.invariant.0 (fill_more _ _ (omega arith)), search rules)
