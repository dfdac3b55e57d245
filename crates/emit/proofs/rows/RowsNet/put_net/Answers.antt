use Prim.Native.Nat.{ℕ, ◌+◌}
use mathlib.Core.Path.{ap}
use native.Mathlib.Omega.{arith}
use lib.ListN.{length}
use Rattle.emit.proofs.RowsTable.{large}
use Rattle.emit.proofs.RowsNet.{bits_room, outs_room, net_stored}
use Rattle.emit.proofs.rows.RowsNet.put_net.Goals as goal

pub overflow_add-inputs : goal.overflow_add-inputs
overflow_add-inputs c =
    let p = c.requires.lengths in
    let w = c.args.self.wiring in
    omega (arith, c.key.ensures.0, (large _ w.low w.high).key_most, w.few)

pub put_bits-requires : goal.put_bits-requires
put_bits-requires c =
    let p = c.requires.lengths in
    let w = c.args.self.wiring in
    let k = (large _ w.low w.high).key_most in
    record {
      lengths = (p.1, p.0, omega (arith, c.key.ensures.0), omega (arith, c.key.ensures.1, w.few));
      next_in_bounds = omega (arith, bits_room _ _ _ _ w _ (c.key.result + c.args.self.m) p.1 (ap (λ (z : ℕ). z + c.args.self.m) c.key.ensures.0) (length c.args.out.now) c.requires.m_in_bounds);
    }

pub put_words-requires : goal.put_words-requires
put_words-requires c =
    let p = c.requires.lengths in
    let w = c.args.self.wiring in
    let g = c.gates-g.ensures.0 in
    omega (arith, outs_room _ _ _ _ w (length c.args.out.now) _ _ p.1 g c.requires.m_in_bounds, c.put_header.auto.out, c.put_bits.auto.out, c.put_bits.auto.wires)

pub returns : goal.returns
returns c =
    let p = c.requires.lengths in
    let w = c.args.self.wiring in
    net_stored _ _ _ _ w _ _ p.1 (ap (λ (z : ℕ). z + c.args.self.m) c.key.ensures.0) c.args.out.now _ _ _ _ _ (c.gates-g.ensures.0) c.requires.m_in_bounds
    c.put_header.ensures c.put_bits.ensures.out_after c.put_bits.ensures.wires_after c.put_words.ensures
