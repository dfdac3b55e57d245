use Prim.Native.Nat.{◌+◌, ◌≤◌}
use mathlib.Core.Path.{◌≡◌, sym, ◌∙◌}
use native.Mathlib.Omega.{arith}
use lib.ListN.{length}
use lib.Seq.{length-take-le}
use Rattle.answer.specs.Fronts.{over}
use Rattle.answer.proofs.Rows.{withheld}
use Rattle.answer.proofs.Over.{kept, tail_is}
use Rattle.netlist.specs.Words.{inputs_of, gates_of, gate_place}
use Rattle.meter.specs.InnerDepths.{depths_to, DepthsLent}
use Rattle.meter.proofs.Judged.{judged_lent, long, outs_stand, measured}
use Rattle.meter.proofs.measure.Goals.{After-counts_of-c, After-put_depths}
use Rattle.meter.proofs.measure.Goals as goal

-- the judge said Ok; the counts are the netlist's; the depths are filled
lent : (c : After-counts_of-c) → DepthsLent c.args.net.now (inputs_of c.args.net.now) (gates_of c.args.net.now) c.args.depths.now
lent c = judged_lent (sym c.judge.ensures ∙ c.in_ok-judge.was)

filled : (c : After-put_depths) → c.put_depths.new.depths ≡ over (depths_to c.args.net.now (gates_of c.args.net.now)) c.args.depths.now
filled c = rw c.counts_of-c.ensures at c.put_depths.ensures

whole : (c : After-put_depths) → DepthsLent c.args.net.now (inputs_of c.args.net.now) (gates_of c.args.net.now) c.args.depths.now
    → c.counts_of-c.result.inputs + c.counts_of-c.result.gates ≤ length c.put_depths.new.depths
whole c l = rw c.counts_of-c.ensures (omega (arith, l.room, long l (filled c)))

pub returns-in_err-judge : goal.returns-in_err-judge
returns-in_err-judge c =
    let e = sym c.judge.ensures ∙ c.in_err-judge.was in
    record { answered = withheld _ (grind arith) e; filled = kept _ _ e }

pub put_depths-requires : goal.put_depths-requires
put_depths-requires c = rw c.counts_of-c.ensures (lent (goal.at.put_depths-requires c).After-counts_of-c)

pub slice_bounds-largest-end : goal.slice_bounds-largest-end
slice_bounds-largest-end c = whole (goal.at.slice_bounds-largest-end c).After-put_depths (lent (goal.at.slice_bounds-largest-end c).After-counts_of-c)

pub slice_bounds-largest-end-2 : goal.slice_bounds-largest-end-2
slice_bounds-largest-end-2 c = sym (length-take-le _ _ (whole (goal.at.slice_bounds-largest-end-2 c).After-put_depths (lent (goal.at.slice_bounds-largest-end-2 c).After-counts_of-c)))

pub slice_bounds-largest_output-count : goal.slice_bounds-largest_output-count
slice_bounds-largest_output-count c =
    rw c.counts_of-c.ensures (omega (arith, (lent (goal.at.slice_bounds-largest_output-count c).After-counts_of-c).sound.size))

pub slice_bounds-largest_output-start : goal.slice_bounds-largest_output-start
slice_bounds-largest_output-start c =
    rw c.counts_of-c.ensures (omega (arith, (lent (goal.at.slice_bounds-largest_output-start c).After-counts_of-c).sound.size))

pub largest_output-deep-requires : goal.largest_output-deep-requires
largest_output-deep-requires c =
    rw (c.counts_of-c.ensures, tail_is (gate_place (gates_of c.args.net.now)) c.args.net.now) (outs_stand (lent (goal.at.largest_output-deep-requires c).After-counts_of-c) (filled (goal.at.largest_output-deep-requires c).After-put_depths))

pub returns : goal.returns
returns c =
    measured (lent (goal.at.returns c).After-counts_of-c) (filled (goal.at.returns c).After-put_depths) (sym c.judge.ensures ∙ c.in_ok-judge.was) (rw c.counts_of-c.ensures at c.largest-top.ensures)
    (rw (c.counts_of-c.ensures, tail_is (gate_place (gates_of c.args.net.now)) c.args.net.now) at c.largest_output-deep.ensures)
