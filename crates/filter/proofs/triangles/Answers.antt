use mathlib.Core.Path.{sym, ◌∙◌}
use native.Mathlib.Omega.{arith}
use borrow.Author.Rules.{rules}
use Prim.Native.Nat.{◌*◌}
use Rattle.filter.specs.Papers.{triangle_size}
use Rattle.filter.specs.Instances.{degrees_to}
use Rattle.filter.proofs.Published.{triangle_total, triangle_holds}
use Rattle.filter.proofs.Parts.{parts_start, parts_step, parts_end}
use Rattle.filter.proofs.triangles.Goals as goal

pub overflow_add-size : goal.overflow_add-size
overflow_add-size c = omega (arith, triangle_holds c.args.k)

pub loop-triangular-init : goal.loop-triangular-init
loop-triangular-init c =
    let a = c.args in
    let t = triangle_total a.k in
    rw c.into_iter-triangular-iterator.ensures.into_iter_gives
    (parts_start (degrees_to a.k) 8 a.x.now _ (8 * triangle_size a.k) _ (search rules ∙ sym t) (omega arith) (omega arith) (search rules))

pub loop-triangular-preserved : goal.loop-triangular-preserved
loop-triangular-preserved c =
    let a = c.args in
    let v = c.loop-triangular.invariant in
    let s = c.in-Some.ensures.steps in
    parts_step (degrees_to a.k) 8 a.x.now _ _ _ _ _ _ _ v (omega (arith, v.each, triangle_total a.k, triangle_holds a.k)) s.0 s.1.0 s.1.1 c.triangle-sum.ensures

pub returns : goal.returns
returns c = parts_end (degrees_to c.args.k) 8 c.args.x.now _ _ _ c.loop-triangular.invariant c.in-None.ensures.steps.1.0
