use mathlib.Core.Path.{sym}
use native.Mathlib.Omega.{arith}
use borrow.Author.Tests.{lt-ltb, le-ltb, eq-eqb, ne_eqb}
use borrow.Author.Rules.{rules}
use Rattle.answer.specs.declared.Reason.TheVariants.{Whitening}
use Rattle.answer.proofs.Search.{scan_hit, scan_miss, scan_end}
use Rattle.answer.proofs.Judges.{first_stop, first_go, or_above}
use Rattle.instance.specs.Judging.{is_one, white_answer}
use Rattle.instance.proofs.Judged.{none_one}
use Rattle.instance.proofs.whitening.Goals as goal

pub returns-then-instance-gt2 : goal.returns-then-instance-gt2
unfolding white_answer
returns-then-instance-gt2 c = rw (lt-ltb _ _ c.if-instance-gt2.true)

pub returns-then-or_all-eq0 : goal.returns-then-or_all-eq0
unfolding white_answer
returns-then-or_all-eq0 c =
    let s = c.args.s.now in
    rw (le-ltb _ _ c.if-instance-gt2.false) (sym (none_one _ s (λ k h. omega (arith, or_above s _ k h, c.or_all.ensures, c.if-or_all-eq0.true))))

pub returns-then-x-eq1 : goal.returns-then-x-eq1
unfolding white_answer is_one
returns-then-x-eq1 c =
    let s = c.args.s.now in
    let p = is_one s in
    rw (le-ltb _ _ c.if-instance-gt2.false, c.refused.ensures)
    (first_stop Whitening _ p s _ (scan_hit p _ _ c.loop-k.invariant (search rules) (eq-eqb _ _ c.if-x-eq1.true)) (search rules))

pub loop-k-preserved : goal.loop-k-preserved
unfolding is_one
loop-k-preserved c =
    scan_miss (is_one c.args.s.now) _ _ c.loop-k.invariant (search rules) (ne_eqb _ _ c.if-x-eq1.false)

pub returns : goal.returns
unfolding white_answer
returns c =
    let s = c.args.s.now in
    let p = is_one s in
    rw (le-ltb _ _ c.if-instance-gt2.false) (sym (first_go Whitening _ p s _ (scan_end p _ _ c.loop-k.invariant c.loop-k-test.false) c.loop-k-test.false))
