use Prim.Native.Nat.{ℕ, ◌+◌, ◌*◌, ◌≤◌}
use mathlib.Core.Path.{◌≡◌, refl, ap, ◌∙◌}
use native.Mathlib.Omega.{arith}
use lib.ListN.{length, take, length-take}
use Rattle.instance.specs.Table.{row_bits}
use Rattle.instance.specs.Keys.{key_in}
use Rattle.filter.specs.Filter.{tab}
use Rattle.filter.proofs.Tab.{tab_none, tab-more, tab_whole}
use Rattle.cipher.specs.Rows.{stream_bit}
use Rattle.cipher.proofs.Variables.{row_in, part_below, parts-length, bit_is}
use borrow.Author.Rules.{rules}
use Rattle.cipher.proofs.rows.Rows.put_bits.Goals.{In-loop-i}
use Rattle.cipher.proofs.rows.Rows.put_bits.Goals as goal

-- row i and its whitening are there
there : (c : In-loop-i) →
    let row = c.row_bits-row.result in
    let end = c.loop-i.i * row + row in
    (end ≤ length c.args.self.now.indices.now) × (end ≤ length c.args.self.now.whitening.now) × (row ≤ length c.args.x.now)
there c =
    let a = c.args in
    let row = c.row_bits-row.result in
    let p = c.requires in
    let n : length a.out.now * row ≡ length a.out.now * row_bits a.self.now.instance = ap (λ (x : ℕ). length a.out.now * x) c.row_bits-row.ensures.0 in
    let r = row_in c.loop-i.i (length a.out.now) row (search rules) in
    (omega (arith, p.indices), omega (arith, p.indices, c.args.self.now.whitened), omega (arith, p.fits, c.row_bits-row.ensures.0))

-- the front of x that is lent has a row's length
front : (c : In-loop-i) → length (take c.row_bits-row.result c.loop-i.x) ≡ c.row_bits-row.result
front c = omega (arith, length-take c.row_bits-row.result c.loop-i.x, there c)

pub loop-i-init : goal.loop-i-init
loop-i-init c = tab_none _ _

pub invariant_of-lent : goal.invariant_of-lent
invariant_of-lent c =
    let s = c.args.self.now in
    let row = c.row_bits-row.result in
    let h = there (goal.at.invariant_of-lent c).In-loop-i in
    record {
      keyed = s.keyed;
      below = λ j k. part_below s.indices.now _ row _ j _ refl k (λ l. s.below _ (omega (arith, h, l)));
      whitened = parts-length s.whitening.now s.indices.now _ row _ refl (omega (arith, h)) (omega (arith, h));
    }

pub loop-i-preserved : goal.loop-i-preserved
loop-i-preserved c =
    let s = c.args.self.now in
    let bits = key_in s.instance s.key.now in
    let f = stream_bit s.instance bits s.indices.now s.whitening.now in
    let m = front (goal.at.loop-i-preserved c).In-loop-i in
    let bit : c.bit.result ≡ f c.loop-i.i = (rw m at c.bit.ensures) ∙ bit_is s.instance bits s.indices.now s.whitening.now c.loop-i.i c.row_bits-row.result _ _ c.row_bits-row.ensures.0 refl refl in
    rw c.loop-i.invariant (tab-more f c.args.out.now c.loop-i.i _ (search rules) bit)

pub returns : goal.returns
returns c =
    let s = c.args.self.now in
    let f = stream_bit s.instance (key_in s.instance s.key.now) s.indices.now s.whitening.now in
    let e : c.loop-i.i ≡ length c.args.out.now = omega arith in
    c.loop-i.invariant ∙ tab_whole f c.args.out.now _ e ∙ ap (tab f) e
