use Prim.Native.Nat.{◌≤◌}
use mathlib.Core.Path.{◌≡◌, ap}
use native.Mathlib.Omega.{arith}
use borrow.Author.Tests.{le-ltb}
use lib.Dec.{ltb}
use lib.ListN.{length}
use Rattle.std.specs.Prelude.{Err}
use Rattle.netlist.specs.declared.counts.Counts.{Counts}
use Rattle.netlist.specs.Words.{gate_place, words}
use Rattle.netlist.proofs.Puts.{words-length, net_put}
use Rattle.cells.specs.Cells.{one_hot_net}
use Rattle.cells.proofs.Facts.{one_hot_outputs}
use Rattle.emit.specs.Emit.{one_hot_answer}
use Rattle.emit.proofs.Shapes.{no_room, in_room, need_is, all-written}
use Rattle.emit.proofs.nets.OneHot.put.Goals.{In_ok-room}
use Rattle.emit.proofs.nets.OneHot.put.Goals as goal

-- there is room for the words
room : (c : In_ok-room) → let a = c.args in length (words (one_hot_net a.self.n)) ≤ length a.out.now
room c =
    let a = c.args in
    in_room (ltb 64 a.self.n) (one_hot_net a.self.n) a.out.now (le-ltb 64 a.self.n c.args.self.few) _ _ (need_is c.word_count.ensures c.counts-counts.ensures.0) c.room.ensures c.in_ok-room.was

pub returns-in_err-room : goal.returns-in_err-room
unfolding one_hot_answer
returns-in_err-room c =
    let a = c.args in
    let e : c.from_residual.result ≡ Err c.in_err-room.field-0.0 = grind arith in
    no_room (ltb 64 a.self.n) (one_hot_net a.self.n) a.out.now (le-ltb 64 a.self.n c.args.self.few) _ _ (need_is c.word_count.ensures c.counts-counts.ensures.0) c.room.ensures e c.in_err-room.was

pub put_gates-requires : goal.put_gates-requires
put_gates-requires c =
    let a = c.args in
    omega (arith, room (goal.at.put_gates-requires c).In_ok-room, words-length (one_hot_net a.self.n), c.put_header.auto.out)

pub put_outs-requires : goal.put_outs-requires
put_outs-requires c =
    let n = c.args.self.n in
    let g = ap Counts.gates c.counts-counts.ensures.0 in
    (c.counts-counts.ensures.1, g, omega (arith, room (goal.at.put_outs-requires c).In_ok-room, words-length (one_hot_net n), one_hot_outputs n, g, c.put_gates.auto.out, c.put_header.auto.out))

pub returns : goal.returns
unfolding one_hot_answer
returns c =
    let a = c.args in
    let e = c.counts-counts.ensures.0 in
    all-written (ltb 64 a.self.n) (one_hot_net a.self.n) a.out.now (le-ltb 64 a.self.n c.args.self.few) _ _ (need_is c.word_count.ensures c.counts-counts.ensures.0) c.room.ensures _ c.in_ok-room.was
    (net_put (one_hot_net a.self.n) a.out.now _ _ _ _ _ e (ap (λ (c : Counts). gate_place c.gates) e) (room (goal.at.returns c).In_ok-room) c.put_header.ensures c.put_gates.ensures c.put_outs.ensures)
