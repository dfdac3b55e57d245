use Prim.Native.Nat.{ℕ}
use mathlib.Core.Path.{ap, ◌∙◌}
use mathlib.Core.List.{List}
use native.Mathlib.Omega.{arith}
use lib.ListN.{get_or}
use Rattle.emit.proofs.RowsBit.{bit_wrote, bit_bare}
use Rattle.wiring.proofs.Whitening.{vars-length}
use Rattle.answer.proofs.Judges.{or_above}
use Rattle.emit.proofs.RowsVariables.{nots_few, vars-at, bare}
use Rattle.emit.proofs.RowsTable.{large}
use Rattle.emit.proofs.rows.Variables.put_bit.Goals as goal

pub returns-then-or_all-eq0 : goal.returns-then-or_all-eq0
returns-then-or_all-eq0 c =
    let ws = c.args.ws.now in
    bit_bare _ _ _ _ _ c.args.self.low c.args.self.high (vars-length _ _ _ ∙ c.args.self.whole) _ _ _ _
    (bare _ _ _ (λ k h. omega (arith, or_above ws _ k h, c.or_all.ensures, c.if-or_all-eq0.true))) c.put_filtered.ensures

pub put_vars-free-requires : goal.put_vars-free-requires
put_vars-free-requires c =
    let q = large c.args.self.instance c.args.self.low c.args.self.high in
    let f = nots_few c.args.self.xs.now c.args.ws.now in
    record { ws_len = (omega arith, omega arith); ws_in_bounds = (omega (arith, q.row_least, q.row_most), omega (arith, q.row_most, q.bit_most)) }

pub put_filtered-requires-2 : goal.put_filtered-requires-2
put_filtered-requires-2 c =
    let q = large c.args.self.instance c.args.self.low c.args.self.high in
    let f = nots_few c.args.self.xs.now c.args.ws.now in
    let v = c.put_vars-free.ensures in
    let x = vars-at c.args.next.wire 81 c.args.self.xs.now c.args.ws.now (omega (arith, q.row_least)) c.requires.row_bound.0 in
    let e = ap (λ (l : List ℕ). get_or l 81 0) v.xs_after in
    record { next_bound = (omega (arith, v.wire_is), omega (arith, v.wire_is, q.row_most, q.bit_most)); instance_in_bounds = omega (arith, v.at_is) }

pub returns : goal.returns
returns c =
    let v = c.put_vars-free.ensures in
    bit_wrote _ _ _ _ _ c.args.self.low c.args.self.high (vars-length _ _ _ ∙ c.args.self.whole) _ _ _ _ _ _ _ _ v.g_after v.at_is v.wire_is v.xs_after
    c.put_filtered-2.ensures
