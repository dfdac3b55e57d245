use mathlib.Core.Path.{refl}
use native.Mathlib.Omega.{arith}
use Rattle.filter.proofs.Sums.{sum-start, sum_step, sum_end}
use borrow.Author.Rules.{rules}
use Rattle.filter.proofs.sum_monomials.Goals as goal

pub loop-degree-init : goal.loop-degree-init
loop-degree-init c = sum-start c.args.degrees.now c.args.x.now

pub loop-degree-preserved : goal.loop-degree-preserved
loop-degree-preserved c =
    let a = c.args in
    let s = c.split_at.ensures in
    sum_step a.degrees.now a.x.now _ _ _ _ _ _ _ _ c.loop-degree.invariant (search rules) (rw (← c.from.ensures) c.min.ensures) s.front s.back c.product-sum.ensures refl

pub returns : goal.returns
returns c = sum_end c.args.degrees.now c.args.x.now _ _ _ c.loop-degree.invariant (omega arith)
