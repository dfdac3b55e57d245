use native.Mathlib.Omega.{arith}
use Rattle.emit.proofs.RowsBit.{filtered_wrote}
use Rattle.emit.proofs.RowsTable.{large}
use Rattle.emit.proofs.rows.Variables.put_filtered.Goals as goal

pub overflow_sub-bit_gates : goal.overflow_sub-bit_gates
overflow_sub-bit_gates c =
    let q = large c.args.self.instance c.args.self.low c.args.self.high in
    omega (arith, q.row_least, q.row_most)

pub put_gate-requires : goal.put_gate-requires
put_gate-requires c =
    let q = large c.args.self.instance c.args.self.low c.args.self.high in
    let k = c.bit_gates.ensures.0 in
    omega (arith, q.row_least, q.row_most)

pub returns : goal.returns
returns c =
    let e = c.past-end.ensures in
    rw e.wire_is
    (filtered_wrote _ _ _ _ _ _ _ _ _ _ c.args.self.low c.args.self.high c.args.self.whole c.put_filter-f.ensures c.bit_gates.ensures.0 (rw e.at_is at c.put_gate.ensures))
