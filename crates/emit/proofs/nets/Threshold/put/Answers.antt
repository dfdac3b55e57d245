use Prim.Native.Nat.{◌≤◌}
use mathlib.Core.Path.{◌≡◌, ap, ◌∙◌}
use native.Mathlib.Omega.{arith}
use lib.ListN.{length}
use lib.Seq.{sets}
use Rattle.std.specs.Prelude.{Err}
use Rattle.netlist.specs.declared.counts.Counts.{Counts}
use Rattle.netlist.specs.Words.{gate_place, words}
use Rattle.netlist.proofs.Puts.{words-length, net_put}
use Rattle.cells.specs.Cells.{threshold_net}
use Rattle.cells.proofs.Facts.{threshold_outputs}
use Rattle.emit.specs.Emit.{no_threshold, threshold_answer}
use Rattle.emit.proofs.Shapes.{threshold_outs, threshold-some, good_shape, no_room, in_room, need_is, all-written}
use Rattle.emit.proofs.nets.Threshold.put.Goals.{In_ok-room}
use Rattle.emit.proofs.nets.Threshold.put.Goals as goal

-- there is room for the words
room : (c : In_ok-room) → let a = c.args in length (words (threshold_net a.self.d a.self.n)) ≤ length a.out.now
room c =
    let a = c.args in
    in_room (no_threshold a.self.d a.self.n) (threshold_net a.self.d a.self.n) a.out.now (good_shape a.self.d a.self.n a.self.few a.self.some a.self.most) _ _ (need_is c.word_count.ensures c.counts-counts.ensures.0) c.room.ensures c.in_ok-room.was

pub returns-in_err-room : goal.returns-in_err-room
unfolding threshold_answer
returns-in_err-room c =
    let a = c.args in
    let e : c.from_residual.result ≡ Err c.in_err-room.field-0.0 = grind arith in
    no_room (no_threshold a.self.d a.self.n) (threshold_net a.self.d a.self.n) a.out.now (good_shape a.self.d a.self.n a.self.few a.self.some a.self.most) _ _ (need_is c.word_count.ensures c.counts-counts.ensures.0) c.room.ensures e c.in_err-room.was

pub put_gates-requires : goal.put_gates-requires
put_gates-requires c =
    let a = c.args in
    omega (arith, room (goal.at.put_gates-requires c).In_ok-room, words-length (threshold_net a.self.d a.self.n), c.put_header.auto.out)

pub overflow_add-n : goal.overflow_add-n
overflow_add-n c =
    omega (arith, c.args.self.few, c.counts-counts.ensures.1)

pub overflow_sub-n : goal.overflow_sub-n
overflow_sub-n c =
    let a = c.args in
    threshold-some a.self.d a.self.n _ a.self.some a.self.most (ap Counts.gates c.counts-counts.ensures.0)

pub put_wires-requires : goal.put_wires-requires
put_wires-requires c =
    let a = c.args in
    let e = ap Counts.gates c.counts-counts.ensures.0 in
    (omega (arith, room (goal.at.put_wires-requires c).In_ok-room, words-length (threshold_net a.self.d a.self.n), threshold_outputs a.self.d a.self.n, e, c.put_gates.auto.out, c.put_header.auto.out), omega (arith, a.self.few, c.counts-counts.ensures.1))

pub returns : goal.returns
unfolding threshold_answer
returns c =
    let a = c.args in
    let e = c.counts-counts.ensures.0 in
    all-written (no_threshold a.self.d a.self.n) (threshold_net a.self.d a.self.n) a.out.now (good_shape a.self.d a.self.n a.self.few a.self.some a.self.most) _ _ (need_is c.word_count.ensures c.counts-counts.ensures.0) c.room.ensures _ c.in_ok-room.was
    (net_put (threshold_net a.self.d a.self.n) a.out.now _ _ _ _ _ e (ap (λ (c : Counts). gate_place c.gates) e) (room (goal.at.returns c).In_ok-room) c.put_header.ensures c.put_gates.ensures
    (c.put_wires.ensures ∙ ap (sets _ _) (threshold_outs a.self.d a.self.n _ a.self.some a.self.most (ap Counts.gates e))))
