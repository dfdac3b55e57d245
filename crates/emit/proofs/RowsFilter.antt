-- One filter: how many gates it has, and that of FiLIP-144 stored in three.
use Prim.Native.Nat.{ℕ, ◌+◌, ◌-◌, ◌*◌, ◌≤◌, ◌<◌}
use mathlib.Core.Bool.{true}
use mathlib.Core.Path.{◌≡◌, refl, sym, ap, ◌∙◌}
use mathlib.Core.List.{List, [], ◌∷◌}
use native.Mathlib.Omega.{arith}
use borrow.Author.Tests.{ne_eqb}
use lib.Seq.{sets, take_all, get_or-drop}
use lib.ListN.{length, get_or, take, drop, length-drop}
use Rattle.netlist.specs.declared.gate.Gate.TheVariants.{Xor}
use Rattle.netlist.specs.Part.{Part, past, join}
use Rattle.netlist.specs.Put.{Wrote}
use Rattle.instance.specs.Table.{row_bits, sizes_of}
use Rattle.filter.specs.Instances.{degrees_of}
use Rattle.filter.proofs.Published.{total}
use Rattle.cells.specs.Cells.{threshold_part}
use Rattle.wiring.specs.Exp.{emit, chain, monomials}
use Rattle.wiring.specs.Inner.{fits}
use Rattle.wiring.specs.Costs.{cost_of}
use Rattle.wiring.specs.Decipher.{filter_exp}
use Rattle.wiring.proofs.Exps.{All, emit-size, threshold_count}
use Rattle.wiring.proofs.Products.{chain_splits, monomials-over, monomials-size}
use Rattle.wiring.proofs.Filters.{filter-over, filter-size}
use Rattle.wiring.proofs.Table.{known_chain}
use Rattle.emit.proofs.RowsTable.{bit_five}
use Rattle.emit.proofs.Writes.{wrote_same, wrote_join}

abbrev Any : ℕ → Type 0
Any w = Unit {0}

any : (xs : List ℕ) → All Any xs
any [] = tt
any (x ∷ xs) = (tt, any xs)

-- the filter and the XOR with the record bit
pub filter-length : (next inst : ℕ) (xs : List ℕ) → 1 ≤ inst → inst ≤ 5 → length xs ≡ row_bits inst → length (emit next (filter_exp chain inst xs)).gates + 1 ≡ (cost_of inst).gates
filter-length next inst xs a b n =
    let k = known_chain inst a b in
    omega (arith, emit-size Any (filter_exp chain inst xs) next (filter-over chain chain_splits inst (cost_of inst) k xs n Any (any xs)), filter-size chain chain_splits inst (cost_of inst) k xs n)

sum-length : (next inst : ℕ) (xs : List ℕ) → 1 ≤ inst → inst ≤ 5 → length xs ≡ row_bits inst → length (emit next (monomials chain (degrees_of inst) xs)).gates + 1 ≡ total (degrees_of inst)
sum-length next inst xs a b n =
    let k = known_chain inst a b in
    let f : fits (k.first ∷ k.others) (length xs) ≡ true = ap (fits (k.first ∷ k.others)) n ∙ k.fit in
    rw k.degrees
    (omega (arith, emit-size Any (monomials chain (k.first ∷ k.others) xs) next (monomials-over chain chain_splits k.first k.others xs f Any (any xs)), monomials-size chain chain_splits k.first k.others xs f))

total_five : total (degrees_of 5) ≡ 81
unfolding degrees_of total
total_five = refl

-- FiLIP-144
module _ (next : ℕ) (xs : List ℕ) (n : length xs ≡ 144) where
  abbrev M : Part
  M = emit next (monomials chain (degrees_of 5) xs)

  abbrev T : ℕ → Part
  T w = threshold_part w 32 (drop 81 xs)

  five_is : emit next (filter_exp chain 5 xs) ≡ join Xor next M (T (past next M))
  unfolding filter_exp emit
  five_is = refl

  chain_five : length M.gates ≡ 80
  unfolding sizes_of
  chain_five = omega (arith, sum-length next 5 xs (omega arith) (omega arith) n, total_five)

  threshold_five : (w : ℕ) → length (T w).gates ≡ 1115
  threshold_five w = threshold_count w (drop 81 xs) (omega (arith, length-drop 81 xs))

  past_five : past next M ≡ next + 80
  unfolding past
  past_five = ap (λ (k : ℕ). next + k) chain_five

  five_stored : (out o₁ o₂ o₃ : List ℕ) (at s t : ℕ) → Wrote out at M o₁ s → Wrote o₁ (at + 320) (T (next + 80)) o₂ t
      → o₃ ≡ sets o₂ (at + 4780) (3 ∷ s ∷ t ∷ 0 ∷ []) → Wrote out at (emit next (filter_exp chain 5 xs)) o₃ (next + 1195)
  five_stored out o₁ o₂ o₃ at s t a b e =
      let c = chain_five in
      let d = threshold_five (next + 80) in
      wrote_same out o₃ at (next + 1195) (sym (five_is ∙ ap (λ (w : ℕ). join Xor next M (T w)) past_five))
      (wrote_join Xor next M (T (next + 80)) out o₁ o₂ o₃ at (at + 320) (at + 4780) s t (next + 1195) a b e (omega arith) (omega arith) (omega arith))

pub five : (inst n : ℕ) → 5 ≤ inst → inst ≤ 5 → n ≡ row_bits inst → (inst ≡ 5) × (n ≡ 144)
unfolding sizes_of
five inst n a b e = let z : inst ≡ 5 = omega arith in (z, e ∙ ap row_bits z)

-- in the code's words
filter_plain : (inst : ℕ) (xs : List ℕ) → inst < 5 → filter_exp chain inst xs ≡ monomials chain (degrees_of inst) xs
unfolding filter_exp
filter_plain inst xs h = rw (ne_eqb inst 5 (λ e. omega arith))

pub five_room : (inst at len : ℕ) → inst ≡ 5 → at + 4 * (cost_of inst).gates ≤ len + 4 → at + 4784 ≤ len
five_room inst at len z h = omega (arith, bit_five inst z)

pub plain_wrote : (out o : List ℕ) (at next inst r : ℕ) (xs : List ℕ) → inst < 5 → Wrote out at (emit next (monomials chain (degrees_of inst) xs)) o r → Wrote out at (emit next (filter_exp chain inst xs)) o r
plain_wrote out o at next inst r xs h w = wrote_same out o at r (ap (emit next) (sym (filter_plain inst xs h))) w

module _ (at next inst : ℕ) (xs : List ℕ) (z : inst ≡ 5) (n : length xs ≡ 144) where
  abbrev Last : List ℕ
  Last = take (length xs - 81) (drop 81 xs)

  last_is : Last ≡ drop 81 xs
  last_is = take_all (length xs - 81) (drop 81 xs) (omega (arith, length-drop 81 xs))

  last_long : length Last ≡ 63
  last_long = ap length last_is ∙ omega (arith, length-drop 81 xs)

  -- what the threshold's writer asks
  pub record Asked (len : ℕ) : Type 0 where
    pub long : length Last ≡ 63
    pub first : get_or Last 0 0 ≡ get_or xs 81 0
    pub room : at + 320 + 4 * length (threshold_part (next + 80) 32 Last).gates ≤ len

  pub five_asks : (len : ℕ) → at + 4 * (cost_of inst).gates ≤ len + 4 → Asked len
  five_asks len h =
      let r = five_room inst at len z h in
      record {
        long = last_long;
        first = ap (λ (l : List ℕ). get_or l 0 0) last_is ∙ get_or-drop 81 xs 0 0;
        room = omega (arith, threshold_count (next + 80) Last last_long);
      }

  pub five_wrote : (out o₁ o₂ o₃ : List ℕ) (s t : ℕ) → Wrote out at (emit next (monomials chain (degrees_of inst) xs)) o₁ s → Wrote o₁ (at + 320) (threshold_part (next + 80) 32 Last) o₂ t
      → o₃ ≡ sets o₂ (at + 4780) (3 ∷ s ∷ t ∷ 0 ∷ []) → Wrote out at (emit next (filter_exp chain inst xs)) o₃ (next + 1195)
  five_wrote out o₁ o₂ o₃ s t a b e = rw z (five_stored next xs n out o₁ o₂ o₃ at s t (rw z at a) (rw last_is at b) e)
