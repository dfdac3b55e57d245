use Rattle.answer.proofs.Over.{tail_is, tail_room}
use Prim.Native.Nat.{◌*◌}
use mathlib.Core.Path.{◌≡◌, ap}
use native.Mathlib.Omega.{arith}
use lib.ListN.{length}
use Rattle.netlist.specs.Words.{gate_stride, gate_place, gates_of}
use Rattle.glue.proofs.Parts.{small_outs, second_written}
use Rattle.glue.proofs.Seam.put_second.Goals.{After-counts_of-gates}
use Rattle.glue.proofs.Seam.put_second.Goals as goal

gates : (c : After-counts_of-gates) → c.counts_of-gates.result.gates ≡ gates_of c.args.second.now
gates c = ap (λ n. n.gates) c.counts_of-gates.ensures

pub slice_bounds-put_outputs-count : goal.slice_bounds-put_outputs-count
slice_bounds-put_outputs-count c =
    omega (arith, gates (goal.at.slice_bounds-put_outputs-count c).After-counts_of-gates, c.requires.sound.size)

pub slice_bounds-put_outputs-start : goal.slice_bounds-put_outputs-start
slice_bounds-put_outputs-start c =
    omega (arith, gates (goal.at.slice_bounds-put_outputs-start c).After-counts_of-gates, c.requires.sound.size)

pub slice_bounds-put_outputs-count-2 : goal.slice_bounds-put_outputs-count-2
slice_bounds-put_outputs-count-2 c =
    omega (arith, gates (goal.at.slice_bounds-put_outputs-count-2 c).After-counts_of-gates, c.requires.space, c.put_gates.auto.out)

pub slice_bounds-put_outputs-start-2 : goal.slice_bounds-put_outputs-start-2
slice_bounds-put_outputs-start-2 c =
    omega (arith, gates (goal.at.slice_bounds-put_outputs-start-2 c).After-counts_of-gates, c.requires.space, c.put_gates.auto.out)

pub put_outputs-requires : goal.put_outputs-requires
put_outputs-requires c =
    let b = c.args.second.now in
    let out = c.put_gates.new.out in
    let len : length out ≡ length c.args.out.now = c.put_gates.auto.out in
    rw (gates (goal.at.put_outputs-requires c).After-counts_of-gates) (
      omega (arith, tail_room (gate_place (gates_of b)) b, tail_room (gate_stride * gates_of b) out, c.requires.space, c.requires.sound.size),
      rw (tail_is (gate_place (gates_of b)) b) (small_outs b c.args.self.outs.now c.args.self.base _ c.requires),
      c.requires.inputs,
    )

pub returns : goal.returns
returns c =
    let s = c.args in
    second_written s.second.now s.self.outs.now s.self.base s.out.now c.counts_of-gates.result c.counts_of-gates.ensures (omega (arith, c.requires.space)) c.put_gates.ensures c.put_outputs.ensures
