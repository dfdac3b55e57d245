use mathlib.Core.Path.{sym, ◌∙◌}
use native.Mathlib.Omega.{arith}
use Rattle.choice.specs.Choice.{swap}
use Rattle.choice.proofs.Swaps.{swaps-more, swaps-all}
use borrow.Author.Rules.{rules}
use Rattle.choice.proofs.exchange.Goals as goal

pub loop-i-preserved : goal.loop-i-preserved
unfolding swap
loop-i-preserved c =
    (sym (swaps-more _ c.loop-i.wires c.loop-i.i (omega arith)) ∙ c.loop-i.invariant.0, search rules)

pub returns : goal.returns
returns c =
    sym (swaps-all _ _ _ c.loop-i.auto.i-end c.loop-i-test.false) ∙ c.loop-i.invariant.0
