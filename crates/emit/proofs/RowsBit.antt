-- One bit: the NOTs, the filter, the XOR with the record's bit.
use Prim.Native.Nat.{ℕ, ◌+◌, ◌-◌, ◌*◌, ◌≤◌}
use mathlib.Core.Path.{◌≡◌, refl, sym, ap, ap₂, ◌∙◌}
use mathlib.Core.List.{List, [], ◌∷◌, ◌++◌}
use native.Mathlib.Omega.{arith}
use lib.ListN.{length, length-append}
use lib.Seq.{sets}
use Rattle.netlist.specs.declared.gate.Gate.{Gate}
use Rattle.netlist.specs.declared.gate.Gate.TheVariants.{Xor}
use Rattle.netlist.specs.Part.{Part, past, input, join}
use Rattle.netlist.specs.Put.{put_gates, Wrote}
use Rattle.netlist.proofs.Puts as puts
use Rattle.instance.specs.Table.{row_bits}
use Rattle.wiring.specs.Exp.{wire, sum, emit, chain}
use Rattle.wiring.specs.Costs.{cost_of}
use Rattle.wiring.specs.Decipher.{nots, vars, filter_exp, bit_exp, bit_part}
use Rattle.emit.proofs.RowsFilter.{filter-length}
use Rattle.emit.proofs.RowsVariables.{Bare}
use Rattle.emit.proofs.Writes.{wrote_same, wrote_join}

module _ (inst rec next : ℕ) (row ws : List ℕ) (a : 1 ≤ inst) (b : inst ≤ 5) (n : length (vars next row ws) ≡ row_bits inst) where
  abbrev G : List Gate
  G = nots row ws

  abbrev P : Part
  P = emit (next + length G) (filter_exp chain inst (vars next row ws))

  part_is : ((bit_part chain inst rec next row ws).gates ≡ G ++ (P.gates ++ Xor P.out rec ∷ [])) × ((bit_part chain inst rec next row ws).out ≡ next + length G + length P.gates)
  unfolding bit_part bit_exp emit join input past
  part_is = (refl, omega arith)

  pub part_length : length (bit_part chain inst rec next row ws).gates ≡ length G + (cost_of inst).gates
  part_length = ap length part_is.0 ∙ simp length-append (omega (arith, filter-length (next + length G) inst (vars next row ws) a b n))

  -- the XOR is the last gate
  pub part_last : (bit_part chain inst rec next row ws).out + 1 ≡ next + length (bit_part chain inst rec next row ws).gates
  part_last = omega (arith, part_is.1, part_length, filter-length (next + length G) inst (vars next row ws) a b n)

  -- in the code's words: what was stored behind the NOTs, and where there are none
  pub bit_wrote : (out o₁ o₂ : List ℕ) (at i free r : ℕ) (xs : List ℕ) → puts.Awaits out at G o₁ → i ≡ at + 4 * length G → free ≡ next + length G → xs ≡ vars next row ws
      → Wrote o₁ i (emit free (sum (filter_exp chain inst xs) (wire rec))) o₂ r → Wrote out at (bit_part chain inst rec next row ws) o₂ r
  unfolding bit_part bit_exp emit join input past
  bit_wrote out o₁ o₂ at i free r xs e₁ ei e₂ e₃ w =
      let x = wrote_same o₁ o₂ i r (ap₂ (λ (z : ℕ) (y : List ℕ). emit z (sum (filter_exp chain inst y) (wire rec))) e₂ e₃) w in
      record {
        gates = x.gates ∙ puts.awaited G P.gates (Xor P.out rec) out o₁ at i e₁ ei;
        wire = x.wire;
      }

  abbrev behind : List Gate → List ℕ → Part
  behind gs xs = let p = emit (next + length gs) (sum (filter_exp chain inst xs) (wire rec)) in record { gates = gs ++ p.gates; out = p.out }

  behind_is : bit_part chain inst rec next row ws ≡ behind (nots row ws) (vars next row ws)
  unfolding bit_part bit_exp
  behind_is = refl

  pub bit_bare : (out o : List ℕ) (at r : ℕ) → Bare next row ws → Wrote out at (emit next (sum (filter_exp chain inst row) (wire rec))) o r
      → Wrote out at (bit_part chain inst rec next row ws) o r
  bit_bare out o at r b w =
      let z : next ≡ next + 0 = omega arith in
      let e : emit next (sum (filter_exp chain inst row) (wire rec)) ≡ emit (next + 0) (sum (filter_exp chain inst row) (wire rec)) =
      ap (λ (n : ℕ). emit n (sum (filter_exp chain inst row) (wire rec))) z in
      wrote_same out o at r (e ∙ ap₂ behind (sym b.gates) (sym b.wires) ∙ sym behind_is) w

-- the filter and the XOR with the record's bit
pub filtered_wrote : (inst rec : ℕ) (out o₁ o₂ : List ℕ) (at next f k : ℕ) (xs : List ℕ) → 1 ≤ inst → inst ≤ 5 → length xs ≡ row_bits inst
    → Wrote out at (emit next (filter_exp chain inst xs)) o₁ f → k ≡ (cost_of inst).gates → o₂ ≡ sets o₁ (at + 4 * (k - 1)) (3 ∷ f ∷ rec ∷ 0 ∷ [])
    → Wrote out at (emit next (sum (filter_exp chain inst xs) (wire rec))) o₂ (next + (k - 1))
unfolding emit input put_gates
filtered_wrote inst rec out o₁ o₂ at next f k xs a b n w ek e =
    let l = filter-length next inst xs a b n in
    let i = at + 4 * (k - 1) in
    wrote_join Xor next (emit next (filter_exp chain inst xs)) (input rec) out o₁ o₁ o₂ at i i f rec (next + (k - 1)) w (record { gates = refl; wire = refl }) e (omega arith) (omega arith) (omega arith)
