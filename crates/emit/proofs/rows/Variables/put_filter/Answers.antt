use native.Mathlib.Omega.{arith}
use lib.ListN.{length}
use Rattle.emit.proofs.RowsFilter.{five, five_asks, five_room, plain_wrote, five_wrote}
use Rattle.emit.proofs.RowsTable.{large}
use Rattle.emit.proofs.rows.Variables.put_filter.Goals as goal

pub put_sum-s-requires : goal.put_sum-s-requires
put_sum-s-requires c =
    let q = large _ c.args.self.low c.args.self.high in
    record { xs_in_bounds = (omega (arith, q.row_most), omega (arith, q.row_most, q.bit_most)) }

pub returns-then-self-lt5 : goal.returns-then-self-lt5
returns-then-self-lt5 c = plain_wrote _ _ _ _ _ _ _ c.if-self-lt5.true c.put_sum-s.ensures

pub slice_bounds-put_threshold-count : goal.slice_bounds-put_threshold-count
slice_bounds-put_threshold-count c =
    let z = five c.args.self.instance (length c.args.self.xs.now) c.if-self-lt5.false c.args.self.high c.args.self.whole in
    omega arith

pub slice_bounds-put_threshold-start : goal.slice_bounds-put_threshold-start
slice_bounds-put_threshold-start c =
    let z = five c.args.self.instance (length c.args.self.xs.now) c.if-self-lt5.false c.args.self.high c.args.self.whole in
    omega arith

pub put_threshold-t-requires : goal.put_threshold-t-requires
put_threshold-t-requires c =
    let z = five c.args.self.instance (length c.args.self.xs.now) c.if-self-lt5.false c.args.self.high c.args.self.whole in
    let a = five_asks c.args.next.at c.args.next.wire c.args.self.instance c.args.self.xs.now z.0 z.1 (length c.args.out.now) c.requires.instance_in_bounds in
    let p = c.past.ensures in
    rw (p.at_is, p.wire_is)
    (record { in_bounds = (omega (arith, a.long), omega (arith, a.long), omega arith, omega (arith, a.long), omega arith, omega (arith, a.first)); ws_in_bounds = omega (arith, a.room) })

pub put_gate-requires : goal.put_gate-requires
put_gate-requires c =
    let z = five c.args.self.instance (length c.args.self.xs.now) c.if-self-lt5.false c.args.self.high c.args.self.whole in
    omega (arith, five_room c.args.self.instance c.args.next.at _ z.0 c.requires.instance_in_bounds)

pub returns : goal.returns
returns c =
    let z = five c.args.self.instance (length c.args.self.xs.now) c.if-self-lt5.false c.args.self.high c.args.self.whole in
    let p = c.past.ensures in
    let e = c.past-end.ensures in
    rw e.wire_is
    (five_wrote _ _ _ _ z.0 z.1 _ _ _ _ _ _ c.put_sum-s.ensures (rw (p.at_is, p.wire_is) at c.put_threshold-t.ensures.wrote) (rw e.at_is at c.put_gate.ensures))
