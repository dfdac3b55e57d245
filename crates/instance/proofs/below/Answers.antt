use mathlib.Core.Path.{sym, ◌∙◌}
use native.Mathlib.Omega.{arith}
use borrow.Author.Tests.{le-leb, lt-leb}
use borrow.Author.Rules.{rules}
use Rattle.answer.specs.declared.Reason.TheVariants.{Index}
use Rattle.answer.proofs.Search.{scan_hit, scan_miss, scan_end}
use Rattle.answer.proofs.Judges.{first_stop, first_go}
use Rattle.instance.specs.Judging.{past_key}
use Rattle.instance.proofs.Judged.{none_past}
use Rattle.instance.proofs.below.Goals as goal

pub returns-in_default : goal.returns-in_default
returns-in_default c = sym (none_past _ _ _ (λ k h. omega (arith, c.type_inv.s k, c.in_default.ensures)))

pub returns-then-not-any_past : goal.returns-then-not-any_past
returns-then-not-any_past c = sym (none_past _ _ _ (λ k h. omega (arith, c.any_past.ensures c.if-not-any_past.true k h, c.in-Ok.ensures.1)))

pub returns-then-limit-index : goal.returns-then-limit-index
unfolding past_key
returns-then-limit-index c =
    let a = c.args in
    let p = past_key a.key a.s.now in
    c.refused.ensures
    ∙ first_stop Index _ p a.s.now _ (scan_hit p _ _ c.loop-k.invariant (search rules) (le-leb _ _ (omega (arith, c.in-Ok.ensures.1, c.if-limit-index.true)))) (search rules)

pub loop-k-preserved : goal.loop-k-preserved
unfolding past_key
loop-k-preserved c =
    scan_miss (past_key c.args.key c.args.s.now) _ _ c.loop-k.invariant (search rules) (lt-leb _ _ (omega (arith, c.in-Ok.ensures.1, c.if-limit-index.false)))

pub returns : goal.returns
returns c =
    let a = c.args in
    let p = past_key a.key a.s.now in
    sym (first_go Index _ p a.s.now _ (scan_end p _ _ c.loop-k.invariant c.loop-k-test.false) c.loop-k-test.false)
