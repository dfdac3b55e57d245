use mathlib.Core.Path.{sym, ◌∙◌}
use Prim.Native.Nat.{◌-◌}
use borrow.Author.Tests.{eq-eqb, ne_eqb}
use borrow.Author.Rules.{rules}
use Rattle.answer.specs.declared.Reason.TheVariants.{Repeat}
use Rattle.answer.proofs.Search.{scan_hit, scan_miss, scan_end, some-hit, some_end}
use Rattle.answer.proofs.Judges.{first_stop, first_go}
use Rattle.instance.specs.Judging.{same_from, repeats_in_row}
use Rattle.instance.proofs.Judged.{row_none}
use Rattle.instance.proofs.RowList.first_repeat.Goals as goal

pub loop-j-preserved : goal.loop-j-preserved
unfolding same_from
loop-j-preserved c =
    scan_miss (same_from (c.loop-k.k - c.in_row-size.result) c.args.self.s.now c.loop-k.k) _ _ c.loop-j.invariant (search rules) (ne_eqb _ _ c.if-s-start.false)

pub loop-k-preserved : goal.loop-k-preserved
loop-k-preserved c =
    let a = c.args in
    scan_miss (repeats_in_row a.self.n a.self.s.now) _ _ c.loop-k.invariant (search rules)
    (row_none a.self.s.now a.self.n c.loop-k.k c.in_row-size.result c.in_row-size.ensures.0 (some_end (same_from (c.loop-k.k - c.in_row-size.result) a.self.s.now c.loop-k.k) _ _ c.loop-j.invariant c.loop-j-test.false))

pub returns : goal.returns
returns c =
    let a = c.args in
    let p = repeats_in_row a.self.n a.self.s.now in
    sym (first_go Repeat _ p a.self.s.now _ (scan_end p _ _ c.loop-k.invariant c.loop-k-test.false) c.loop-k-test.false)

pub returns-2 : goal.returns-2
unfolding same_from
returns-2 c =
    let a = c.args in
    let p = repeats_in_row a.self.n a.self.s.now in
    c.refused.ensures
    ∙ first_stop Repeat _ p a.self.s.now _
    (scan_hit p _ _ c.loop-k.invariant (search rules)
    (row_none a.self.s.now a.self.n c.loop-k.k c.in_row-size.result c.in_row-size.ensures.0
    (some-hit (same_from (c.loop-k.k - c.in_row-size.result) a.self.s.now c.loop-k.k) _ _ c.loop-j.invariant (search rules) (eq-eqb _ _ c.if-s-start.true))))
    (search rules)
