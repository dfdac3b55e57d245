use mathlib.Core.Path.{ap, ◌∙◌}
use mathlib.Core.List.{[], ◌∷◌}
use native.Mathlib.Omega.{arith}
use native.Mathlib.Nat.{mul_comm}
use Rattle.filter.specs.Filter.{sum_of}
use Rattle.filter.proofs.Parts.{parts_start, parts_step, parts_end, total-one, copies_one, sum_of-one}
use Rattle.filter.proofs.sum_equal.Goals as goal

pub loop-monomial-init : goal.loop-monomial-init
loop-monomial-init c =
    let a = c.args in
    let e = c.chunks_exact-monomial-items.ensures in
    let t = total-one a.degree in
    rw c.into_iter-monomial-iterator.ensures.into_iter_gives
    (parts_start (a.degree ∷ []) a.many a.x.now _ _ _ (omega (arith, e.size)) (rw t (omega (arith, mul_comm a.many a.degree))) (omega arith) e.rest)

pub loop-monomial-preserved : goal.loop-monomial-preserved
loop-monomial-preserved c =
    let a = c.args in
    let v = c.loop-monomial.invariant in
    let s = c.in-Some.ensures.steps in
    let t = total-one a.degree in
    parts_step (a.degree ∷ []) a.many a.x.now _ _ _ _ _ _ _ v (omega (arith, v.each)) s.0 s.1.0 s.1.1
    (c.product-sum.ensures ∙ sum_of-one a.degree _ (omega (arith, v.each, s.1.1)))

pub returns : goal.returns
returns c =
    let a = c.args in
    parts_end (a.degree ∷ []) a.many a.x.now _ _ _ c.loop-monomial.invariant c.in-None.ensures.steps.1.0 ∙ ap (λ l. sum_of l a.x.now) (copies_one a.many a.degree)
