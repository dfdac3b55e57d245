use mathlib.Core.Path.{refl, sym, ◌∙◌}
use native.Mathlib.Omega.{arith}
use Rattle.emit.proofs.RowsBits.{Turn, Bound, turn, bitting_start, bitting_turn, bitting_end, last_bound}
use Rattle.emit.proofs.RowsNet.{wiring_of}
use Rattle.emit.proofs.rows.RowsNet.put_bits.Goals.{After-put_bit-last, In-loop-j}
use Rattle.emit.proofs.rows.RowsNet.put_bits.Goals as goal

turn_at : (l : In-loop-j) → let a = l.args in Turn a.self.instance a.self.indices.now a.self.whitening.now l.loop-j.out l.loop-j.xs l.loop-j.i l.loop-j.wire l.loop-j.start l.loop-j.j
turn_at l =
    let p = l.requires.lengths in
    let w = wiring_of _ _ _ _ _ p.0 l.args.self.wiring in
    turn _ _ _ _ _ _ _ w (omega arith) p.3 _ _ _ _ _ _ _ l.loop-j.invariant (omega arith)

bound_at : (b : After-put_bit-last) → Bound b.loop-j.out b.loop-j.i b.loop-j.wire b.put_bit-last.result
bound_at b =
    let p = b.requires.lengths in
    let w = wiring_of _ _ _ _ _ p.0 b.args.self.wiring in
    last_bound _ _ _ _ _ _ _ w (omega arith) p.3 _ _ _ _ _ _ _ b.loop-j.invariant (omega arith) _ b.key-key.ensures.0 _ _ b.put_bit-last.ensures

pub loop-j-init : goal.loop-j-init
loop-j-init c = bitting_start _ _ _ _ _ _ _ (wiring_of _ _ _ _ _ c.requires.lengths.0 c.args.self.wiring) (omega arith) c.requires.lengths.3 _ _ c.requires.lengths.1 refl c.requires.next_in_bounds

pub put_bit-last-requires : goal.put_bit-last-requires
put_bit-last-requires c =
    let p = c.requires.lengths in
    let w = wiring_of _ _ _ _ _ p.0 c.args.self.wiring in
    let t = turn_at (goal.at.put_bit-last-requires c).In-loop-j in
    record { lengths = (t.white ∙ sym t.row, omega (arith, t.row)); row_bound = (t.below, t.small); instance_in_bounds = t.space }

pub overflow_add-i : goal.overflow_add-i
overflow_add-i c =
    omega (arith, (bound_at (goal.at.overflow_add-i c).After-put_bit-last).less, (turn_at (goal.at.overflow_add-i c).In-loop-j).small)

pub overflow_sub-i : goal.overflow_sub-i
overflow_sub-i c =
    omega (arith, (bound_at (goal.at.overflow_sub-i c).After-put_bit-last).more)

pub overflow_add-wire : goal.overflow_add-wire
overflow_add-wire c =
    omega (arith, (bound_at (goal.at.overflow_add-wire c).After-put_bit-last).less, (turn_at (goal.at.overflow_add-wire c).In-loop-j).small)

pub loop-j-preserved : goal.loop-j-preserved
loop-j-preserved c =
    let p = c.requires.lengths in
    let w = wiring_of _ _ _ _ _ p.0 c.args.self.wiring in
    bitting_turn _ _ _ _ _ _ _ w (omega arith) p.3 _ _ _ _ _ _ _ c.loop-j.invariant (omega arith) _ c.key-key.ensures.0 _ _ c.put_bit-last.ensures _ c.put_bit-last.auto.xs

pub returns : goal.returns
returns c =
    let e = bitting_end _ _ _ _ _ _ _ (wiring_of _ _ _ _ _ c.requires.lengths.0 c.args.self.wiring) (omega arith) c.requires.lengths.3 _ _ _ _ _ _ _ c.loop-j.invariant (omega arith) in record { out_after = e.0; wires_after = e.1 }
