use Prim.Native.Nat.{◌-◌, ◌<◌}
use mathlib.Core.Path.{◌≡◌, ◌∙◌}
use native.Mathlib.Omega.{arith}
use lib.ListN.{get_or, length}
use Rattle.filter.specs.Instances.{degrees_to}
use Rattle.filter.proofs.Sums.{sum_end}
use Rattle.filter.proofs.Published.{triangle_total}
use Rattle.filter.proofs.Parts.{part-start, part_room, part_step, up_to-length, up_to-at}
use Rattle.filter.proofs.triangle.Goals.{In-loop-degree}
use Rattle.filter.proofs.triangle.Goals as goal

-- the degree that stands in the list before the loop's
here : (c : In-loop-degree) → let j = c.loop-degree.degree - 1 in (j < length (degrees_to c.args.k)) × (get_or (degrees_to c.args.k) j 0 ≡ c.loop-degree.degree)
here c =
    let k = c.args.k in
    let j = c.loop-degree.degree - 1 in
    let h : j < k = omega arith in
    (omega (arith, up_to-length k), up_to-at k j h ∙ omega arith)

pub loop-degree-init : goal.loop-degree-init
loop-degree-init c = part-start (degrees_to c.args.k) c.args.x.now (omega (arith, triangle_total c.args.k))

pub split_at-requires : goal.split_at-requires
split_at-requires c =
    let h = here c in
    part_room (degrees_to c.args.k) c.args.x.now _ _ _ _ c.loop-degree.invariant h.0 h.1

pub loop-degree-preserved : goal.loop-degree-preserved
loop-degree-preserved c =
    let h = here (goal.at.loop-degree-preserved c).In-loop-degree in
    let s = c.split_at.ensures in
    part_step (degrees_to c.args.k) c.args.x.now _ _ _ _ _ _ _ _ c.loop-degree.invariant h.0 h.1 s.front s.back c.product-sum.ensures (omega arith)

pub returns : goal.returns
returns c =
    let k = c.args.k in
    sum_end (degrees_to k) c.args.x.now _ _ _ c.loop-degree.invariant.sums (omega (arith, up_to-length k))
