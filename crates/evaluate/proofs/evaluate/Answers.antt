use mathlib.Core.Path.{◌≡◌, refl, sym, ◌∙◌}
use native.Mathlib.Omega.{arith}
use lib.ListN.{length}
use Rattle.std.specs.Prelude.{Err}
use Rattle.answer.specs.Fronts.{over}
use Rattle.answer.proofs.Over.{kept, made, tail_is}
use Rattle.netlist.specs.Net.{values}
use Rattle.netlist.specs.Words.{gates_of, gate_place, net_of}
use Rattle.evaluate.specs.Ready.{Ready}
use Rattle.evaluate.proofs.Walks.{gates_fit, outputs_fit, all-values, all_outputs}
use Rattle.evaluate.proofs.Accepted.{done_ready}
use Rattle.evaluate.proofs.evaluate.Goals.{After-counts_of-c, After-put_gates}
use Rattle.evaluate.proofs.evaluate.Goals as goal

ready : (c : After-counts_of-c) → Ready c.args.net.now c.args.inputs.now (length c.args.values.now) (length c.args.outputs.now)
ready c = done_ready _ _ _ _ (sym c.judge.ensures ∙ c.in_ok-judge.was)

filled : (c : After-put_gates) → Ready c.args.net.now c.args.inputs.now (length c.args.values.now) (length c.args.outputs.now) →
    c.put_gates.new.values ≡ over (values (net_of c.args.net.now) c.args.inputs.now) c.args.values.now
filled c r = all-values _ _ _ _ r _ c.put_inputs.ensures (rw c.counts_of-c.ensures at c.put_gates.ensures)

pub returns-in_err-judge : goal.returns-in_err-judge
returns-in_err-judge c =
    let e : c.from_residual.result ≡ Err c.in_err-judge.field-0.0 = grind arith in
    record {
      answered = e ∙ sym c.in_err-judge.was ∙ c.judge.ensures;
      filled = kept _ c.args.values.now e;
      given = kept _ c.args.outputs.now e;
    }

pub put_inputs-requires : goal.put_inputs-requires
put_inputs-requires c =
    let r = ready (goal.at.put_inputs-requires c).After-counts_of-c in
    omega (arith, r.count, r.values)

pub put_gates-requires : goal.put_gates-requires
put_gates-requires c =
    rw c.counts_of-c.ensures (gates_fit _ _ _ _ (ready (goal.at.put_gates-requires c).After-counts_of-c) _ refl c.put_inputs.ensures)

pub slice_bounds-put_outputs-count : goal.slice_bounds-put_outputs-count
slice_bounds-put_outputs-count c =
    rw c.counts_of-c.ensures (omega (arith, (ready (goal.at.slice_bounds-put_outputs-count c).After-counts_of-c).sound.size))

pub slice_bounds-put_outputs-start : goal.slice_bounds-put_outputs-start
slice_bounds-put_outputs-start c =
    rw c.counts_of-c.ensures (omega (arith, (ready (goal.at.slice_bounds-put_outputs-start c).After-counts_of-c).sound.size))

pub put_outputs-requires : goal.put_outputs-requires
put_outputs-requires c =
    rw (c.counts_of-c.ensures, tail_is (gate_place (gates_of c.args.net.now)) c.args.net.now)
    (outputs_fit _ _ _ _ (ready (goal.at.put_outputs-requires c).After-counts_of-c) (omega arith) (omega arith))

pub returns : goal.returns
returns c =
    let r = ready (goal.at.returns c).After-counts_of-c in
    let v = filled (goal.at.returns c).After-put_gates r in
    record {
      answered = sym c.in_ok-judge.was ∙ c.judge.ensures;
      filled = v ∙ made _ _ refl;
      given = all_outputs _ _ _ _ r _ _ v (rw (c.counts_of-c.ensures, tail_is (gate_place (gates_of c.args.net.now)) c.args.net.now) at c.put_outputs.ensures) ∙ made _ _ refl;
    }
