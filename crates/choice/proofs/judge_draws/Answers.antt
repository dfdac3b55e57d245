use borrow.Author.Tests.{le-leb, lt-leb}
use borrow.Author.Rules.{rules}
use mathlib.Core.Path.{sym, ◌∙◌}
use Rattle.answer.specs.declared.Reason.TheVariants.{Draw}
use Rattle.answer.proofs.Search.{scan_hit, scan_miss, scan_end}
use Rattle.answer.proofs.Judges.{first_stop, first_go}
use Rattle.choice.specs.Choice.{past_draw}
use Rattle.choice.proofs.judge_draws.Goals as goal

pub returns-then-key-i : goal.returns-then-key-i
unfolding past_draw
returns-then-key-i c =
    let a = c.args in
    let p = past_draw a.key a.draws.now in
    c.refused.ensures ∙ first_stop Draw 1 p a.draws.now _ (scan_hit p _ _ c.loop-i.invariant (search rules) (le-leb _ _ c.if-key-i.true)) (search rules)

pub loop-i-preserved : goal.loop-i-preserved
unfolding past_draw
loop-i-preserved c =
    scan_miss (past_draw c.args.key c.args.draws.now) _ _ c.loop-i.invariant (search rules) (lt-leb _ _ c.if-key-i.false)

pub returns : goal.returns
returns c =
    let a = c.args in
    let p = past_draw a.key a.draws.now in
    sym (first_go Draw 1 p a.draws.now _ (scan_end p _ _ c.loop-i.invariant c.loop-i-test.false) c.loop-i-test.false)
