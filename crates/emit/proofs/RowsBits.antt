-- The loop over the record's bits.
use Prim.Native.Nat.{ℕ, suc, ◌+◌, ◌-◌, ◌*◌, ◌≤◌, ◌<◌}
use mathlib.Core.Path.{◌≡◌, refl, sym, ap, ap₂, ◌∙◌}
use mathlib.Core.List.{List, [], ◌∷◌, ◌++◌, append_assoc, append-nil}
use native.Mathlib.Omega.{arith}
use native.Mathlib.Nat.{add-sub_cancel_left, mul-le-mul_right, suc-mul}
use native.Mathlib.Numerals.{add-one}
use lib.ListN.{length, get_or, take, drop, set, length-append, length-set}
use lib.Seq.{take-suc-set, take_all, get_or-drop, get_or-take}
use Rattle.netlist.specs.declared.gate.Gate.{Gate}
use Rattle.netlist.specs.Part.{Part, past}
use Rattle.netlist.specs.Put.{put_gates, Wrote}
use Rattle.netlist.proofs.Puts.{put_append, put_length}
use Rattle.instance.specs.Table.{key_bits, row_bits}
use Rattle.wiring.specs.Exp.{chain}
use Rattle.wiring.specs.Costs.{cost_of}
use Rattle.wiring.specs.Decipher.{nots, bit_part, row_at, part_at, bits_gates, bits_outs}
use Rattle.wiring.proofs.Whitening.{vars-length}
use Rattle.wiring.proofs.Deciphers.{row-length}
use Rattle.emit.specs.InnerRows.{Wiring}
use Rattle.emit.proofs.RowsBit.{part_length, part_last}
use Rattle.emit.proofs.RowsVariables.{nots_few}
use Rattle.emit.proofs.RowsTable.{large}
use Rattle.emit.proofs.Writes.{wrote_same}

-- the row of a list that the code lends at a bit
abbrev slice_at : ℕ → List ℕ → List ℕ → List ℕ
slice_at start xs l = take (start + length xs - start) (drop start l)

-- what the next call asks, and what bounds the numbers
pub record Turn (inst : ℕ) (idx wh out xs : List ℕ) (i wire start j : ℕ) : Type 0 where
  pub row : length (slice_at start xs idx) ≡ row_bits inst
  pub white : length (slice_at start xs wh) ≡ row_bits inst
  pub below : get_or (slice_at start xs idx) 81 0 < wire
  pub space : i + 4 * (length (nots (slice_at start xs idx) (slice_at start xs wh)) + (cost_of inst).gates) ≤ length out
  pub small : wire ≤ 300000
  pub ends : start + row_bits inst ≤ length idx
  pub ends_wh : start + row_bits inst ≤ length wh
  pub row_most : row_bits inst ≤ 1394
  pub key_most : key_bits inst ≤ 16384
  pub count : j < 64

-- the bit's wire, and where the next bit is stored
pub record Bound (out : List ℕ) (i wire last : ℕ) : Type 0 where
  pub more : wire ≤ last
  pub less : last + 1 ≤ wire + 3000
  pub space : i + 4 * (last + 1 - wire) ≤ length out

module _ (inst : ℕ) (idx wh : List ℕ) where
  abbrev gates_from : ℕ → ℕ → ℕ → List Gate
  gates_from m j wire = bits_gates chain inst idx wh (m - j) j wire

  abbrev outs_from : ℕ → ℕ → ℕ → List ℕ
  outs_from m j wire = bits_outs chain inst idx wh (m - j) j wire

  abbrev part : ℕ → ℕ → Part
  part j wire = part_at chain inst idx wh j wire

  gates_more : (m j wire : ℕ) → j < m → gates_from m j wire ≡ (part j wire).gates ++ gates_from m (suc j) (wire + length (part j wire).gates)
  unfolding bits_gates past
  gates_more m j wire h = let e : m - j ≡ suc (m - suc j) = omega arith in ap (λ (k : ℕ). bits_gates chain inst idx wh k j wire) e

  outs_more : (m j wire : ℕ) → j < m → outs_from m j wire ≡ (part j wire).out ∷ outs_from m (suc j) (wire + length (part j wire).gates)
  unfolding bits_outs past
  outs_more m j wire h = let e : m - j ≡ suc (m - suc j) = omega arith in ap (λ (k : ℕ). bits_outs chain inst idx wh k j wire) e

  -- at bit j, with the next word i to store at, the next wire, and the start of its row
  pub record Bitting (m at next : ℕ) (out₀ out xs wires : List ℕ) (i wire start j : ℕ) : Type 0 where
    pub gates : put_gates out i (gates_from m j wire) ≡ put_gates out₀ at (bits_gates chain inst idx wh m 0 next)
    pub outs : take j wires ++ outs_from m j wire ≡ bits_outs chain inst idx wh m 0 next
    pub room : i + 4 * length (gates_from m j wire) ≤ length out₀
    pub free : wire ≤ next + 3000 * j
    pub more : next ≤ wire
    pub begin : start ≡ j * row_bits inst
    pub within : j ≤ m
    pub out_long : length out ≡ length out₀
    pub xs_long : length xs ≡ row_bits inst
    pub wires_long : length wires ≡ m

  module _ (m at next : ℕ) (out₀ : List ℕ) (W : Wiring inst m idx wh) (low : key_bits inst ≤ next) (high : next ≤ 20000) where
    pub bitting_start : (xs wires : List ℕ) → length xs ≡ row_bits inst → length wires ≡ m → at + 4 * length (bits_gates chain inst idx wh m 0 next) ≤ length out₀
        → Bitting m at next out₀ out₀ xs wires at next 0 0
    bitting_start xs wires a b c =
        let z : m - 0 ≡ m = omega arith in
        let zg = ap (λ (k : ℕ). bits_gates chain inst idx wh k 0 next) z in
        record {
          gates = ap (put_gates out₀ at) zg;
          outs = ap (λ (k : ℕ). bits_outs chain inst idx wh k 0 next) z;
          room = omega (arith, ap length zg);
          free = omega arith;
          more = omega arith;
          begin = omega arith;
          within = omega arith;
          out_long = refl;
          xs_long = a;
          wires_long = b;
        }

    module _ (out xs wires : List ℕ) (i wire start j : ℕ) (g : Bitting m at next out₀ out xs wires i wire start j) (h : j < m) where
      abbrev slice : List ℕ → List ℕ
      slice = slice_at start xs

      abbrev P : Part
      P = bit_part chain inst (key_bits inst + j) wire (slice idx) (slice wh)

      slice_is : (l : List ℕ) → slice l ≡ row_at (row_bits inst) j l
      unfolding row_at
      slice_is l =
          ap (λ (k : ℕ). take k (drop start l)) (add-sub_cancel_left start (length xs) ∙ g.xs_long)
          ∙ ap (λ (k : ℕ). take (row_bits inst) (drop k l)) g.begin

      part_is : P ≡ part j wire
      unfolding part_at
      part_is = ap₂ (bit_part chain inst (key_bits inst + j) wire) (slice_is idx) (slice_is wh)

      slice_long : (l : List ℕ) → length l ≡ m * row_bits inst → length (slice l) ≡ row_bits inst
      slice_long l e = ap length (slice_is l) ∙ row-length (row_bits inst) j m l e h

      slice_ends : start + row_bits inst ≤ m * row_bits inst
      slice_ends = omega (arith, g.begin, mul-le-mul_right (row_bits inst) h, suc-mul j (row_bits inst))

      slice_below : get_or (slice idx) 81 0 < wire
      slice_below =
          let q = large inst W.low W.high in
          let e : start + length xs - start ≡ row_bits inst = add-sub_cancel_left start (length xs) ∙ g.xs_long in
          let s : get_or (slice idx) 81 0 ≡ get_or idx (start + 81) 0 = get_or-take (start + length xs - start) (drop start idx) 81 0 (omega (arith, q.row_least)) ∙ get_or-drop start idx 81 0 in
          let ends = slice_ends in
          omega (arith, W.rows.below (start + 81) (omega (arith, W.rows.indices, q.row_least)), g.more)

      long : length P.gates ≡ length (nots (slice idx) (slice wh)) + (cost_of inst).gates
      long = part_length inst (key_bits inst + j) wire (slice idx) (slice wh) W.low W.high (vars-length wire (slice idx) (slice wh) ∙ slice_long idx W.rows.indices)

      rest_long : length (gates_from m j wire) ≡ length P.gates + length (gates_from m (suc j) (wire + length (part j wire).gates))
      rest_long =
          ap length (gates_more m j wire h) ∙ length-append (part j wire).gates _
          ∙ ap (λ (p : Part). length p.gates + length (gates_from m (suc j) (wire + length (part j wire).gates))) (sym part_is)

      pub turn : Turn inst idx wh out xs i wire start j
      turn =
          let q = large inst W.low W.high in
          let e = slice_ends in
          record {
            row = slice_long idx W.rows.indices;
            white = slice_long wh W.rows.whitening;
            below = slice_below;
            space = omega (arith, g.room, g.out_long, long, rest_long);
            small = omega (arith, g.free, W.few);
            ends = omega (arith, W.rows.indices);
            ends_wh = omega (arith, W.rows.whitening);
            row_most = omega (arith, q.row_most, q.bit_most);
            key_most = q.key_most;
            count = omega (arith, W.few);
          }

      module _ (key : ℕ) (ek : key ≡ key_bits inst) (out' : List ℕ) (last : ℕ) (w : Wrote out i (bit_part chain inst (key + j) wire (slice idx) (slice wh)) out' last) where
        wrote : Wrote out i P out' last
        wrote = rw ek at w

        last_is : last + 1 ≡ wire + length P.gates
        last_is =
            ap (λ (k : ℕ). k + 1) wrote.wire
            ∙ part_last inst (key_bits inst + j) wire (slice idx) (slice wh) W.low W.high (vars-length wire (slice idx) (slice wh) ∙ slice_long idx W.rows.indices)

        pub last_bound : Bound out i wire last
        last_bound =
            let q = large inst W.low W.high in
            let n = nots_few (slice idx) (slice wh) in
            let r = slice_long idx W.rows.indices in
            let l = long in
            let e = last_is in
            record {
              more = omega (arith, q.row_least, q.row_most);
              less = omega (arith, q.row_most, q.bit_most);
              space = omega (arith, turn.space);
            }

        pub bitting_turn : (xs' : List ℕ) → length xs' ≡ length xs
            → Bitting m at next out₀ out' xs' (set wires j last) (i + 4 * (last + 1 - wire)) (last + 1) (start + length xs) (j + 1)
        bitting_turn xs' lx =
            let p = part j wire in
            let b = last_bound in
            let pw = wrote_same out out' i last part_is wrote in
            let pp : wire + length p.gates ≡ last + 1 = ap (λ (z : Part). wire + length z.gates) (sym part_is) ∙ sym last_is in
            let s2 : length (gates_from m (suc j) (wire + length p.gates)) ≡ length (gates_from m (suc j) (last + 1)) = ap (λ (z : ℕ). length (gates_from m (suc j) z)) pp in
            rw (add-one j) (record {
              gates = ap₂ (λ (o : List ℕ) (z : ℕ). put_gates o (i + 4 * (last + 1 - wire)) (gates_from m (suc j) z)) pw.gates (sym pp)
                  ∙ put_append p.gates (gates_from m (suc j) (wire + length p.gates)) out i (i + 4 * (last + 1 - wire)) (omega arith)
                  ∙ ap (put_gates out i) (sym (gates_more m j wire h))
                  ∙ g.gates;
              outs = ap₂ ◌++◌ (take-suc-set wires j last (omega (arith, g.wires_long))) refl
                  ∙ append_assoc (take j wires) (last ∷ []) _
                  ∙ ap (λ (z : List ℕ). take j wires ++ z) (ap₂ (λ (a b : ℕ). a ∷ outs_from m (suc j) b) pw.wire (sym pp) ∙ sym (outs_more m j wire h))
                  ∙ g.outs;
              room = omega (arith, g.room, rest_long, last_is);
              free = omega (arith, g.free, b.less);
              more = omega (arith, g.more, b.more);
              begin = omega (arith, g.begin, g.xs_long, suc-mul j (row_bits inst));
              within = omega arith;
              out_long = ap length pw.gates ∙ put_length p.gates out i ∙ g.out_long;
              xs_long = lx ∙ g.xs_long;
              wires_long = length-set wires j last ∙ g.wires_long;
            })

    pub bitting_end : (out xs wires : List ℕ) (i wire start j : ℕ) → Bitting m at next out₀ out xs wires i wire start j → m ≤ j
        → (out ≡ put_gates out₀ at (bits_gates chain inst idx wh m 0 next)) × (wires ≡ bits_outs chain inst idx wh m 0 next)
    unfolding bits_gates bits_outs put_gates
    bitting_end out xs wires i wire start j g h =
        let e : m - j ≡ 0 = omega arith in (
          sym (ap (λ (k : ℕ). put_gates out i (bits_gates chain inst idx wh k j wire)) e) ∙ g.gates,
          sym (ap₂ ◌++◌ (take_all j wires (omega (arith, g.wires_long))) (ap (λ (k : ℕ). bits_outs chain inst idx wh k j wire) e) ∙ append-nil wires) ∙ g.outs,
        )
