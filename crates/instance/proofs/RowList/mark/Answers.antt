use mathlib.Core.Path.{◌≡◌, ap, ◌∙◌}
use Prim.Native.Nat.{ℕ, ◌+◌}
use native.Mathlib.Omega.{arith}
use lib.ListN.{length, drop}
use Rattle.instance.proofs.Marks.{Cut, next_cut, row_rest, row_scanned, row_passed}
use Rattle.instance.proofs.RowList.mark.Goals.{After-mark_row-r}
use Rattle.instance.proofs.RowList.mark.Goals as goal

cut : (c : After-mark_row-r) → Cut c.args.self.s.now c.args.self.n c.loop-row.at c.in-Some.row.now c.next.new.self.rest.now
cut c =
    let i = c.loop-row.invariant in
    let n = c.in-Some.ensures.steps in
    next_cut _ _ i.rest i.step n.1.0 n.1.1 n.1.2

pub returns-then-r-row : goal.returns-then-r-row
returns-then-r-row c =
    row_scanned (cut (goal.at.returns-then-r-row c).After-mark_row-r) c.loop-row.invariant.rowed _ c.mark_row-r.ensures

pub loop-row-preserved : goal.loop-row-preserved
loop-row-preserved c =
    let k = cut (goal.at.loop-row-preserved c).After-mark_row-r in
    let r = c.mark_row-r.ensures in
    let s = c.args.self.s.now in
    let e : c.mark_row-r.result ≡ length c.in-Some.row.now = omega (arith, r.within, c.if-r-row.false) in
    record {
      rowed = row_passed k c.loop-row.invariant.rowed _ r c.if-r-row.false;
      rest = ap (λ (m : ℕ). drop (c.loop-row.at + m) s) e ∙ row_rest k;
      step = c.in-Some.ensures.steps.0 ∙ c.loop-row.invariant.step;
      seen = c.mark_row-r.auto.seen ∙ c.loop-row.invariant.seen;
    }
