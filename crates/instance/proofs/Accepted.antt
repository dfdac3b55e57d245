-- The judges of numbers, lengths, rows and whitening accept a wiring exactly if it is what the rules let a caller lend.
use Prim.Native.Nat.{ℕ, zero, suc, ◌+◌, ◌-◌, ◌*◌, ◌/◌, ◌%◌, ◌<◌, ◌≤◌}
use mathlib.Core.Bool.{Bool, true, false}
use mathlib.Core.Path.{◌≡◌, refl, sym, ap, ◌∙◌}
use mathlib.Core.List.{List, []}
use native.Mathlib.Decide.{dec_le}
use native.Mathlib.Nat.{mul-zero, mod-lt, div-add-mod', lt_of_mul-lt-mul_right}
use native.Mathlib.Omega.{arith}
use lib.Arith.{digits_lt, digits_mod}
use lib.Dec.{ltb}
use lib.ListN.{length, get_or}
use borrow.Author.Tests.{eqb-false, ne_eqb, le-ltb, ltb-false, lt-leb}
use Rattle.std.specs.Prelude.{Ok}
use Rattle.answer.specs.declared.Reason.TheVariants.{Index, Instance, Record, Repeat, Whitening}
use Rattle.answer.specs.Judges.{first_answer}
use Rattle.answer.specs.Bits.{bits_answer}
use Rattle.answer.specs.Choose.{choose}
use Rattle.answer.proofs.Rows.{both, first_done, then_done, refuse_not}
use Rattle.answer.proofs.Search.{some_none, none_below}
use Rattle.answer.proofs.Judges.{first_done_at, done_first, done_length, length_done, bits_done}
use Rattle.instance.specs.Table.{sizes_of, key_bits, row_bits, white_bits}
use Rattle.instance.specs.Judging.{outside, numbers_answer, past_key, same_from, repeats_in_row, rows_answer, is_one, white_answer, wiring_lengths, wiring_rows}
use Rattle.instance.specs.Wired.{Wired, Bits}
use Rattle.instance.proofs.Judged.{numbers_done, rows_done, none_one}

-- ---- what gives done

pub not_outside : (lo hi x : ℕ) → lo ≤ x → x ≤ hi → outside lo hi x ≡ false
not_outside lo hi x a b = rw (le-ltb x lo a, le-ltb hi x b)

pub done_numbers : (inst m : ℕ) → 1 ≤ inst → inst ≤ 6 → 1 ≤ m → m ≤ 64 → numbers_answer inst m ≡ Ok tt
unfolding numbers_answer
done_numbers inst m a b c d = both (refuse_not Instance 0 0 (not_outside 1 6 inst a b)) (refuse_not Record 0 0 (not_outside 1 64 m c d))

-- ---- rows of n, end to end: place j of row i is i * n + j

-- the row and the place in it of place k of the list
pub place_of : (m n k : ℕ) → k < m * n → (k / n * n + k % n ≡ k) × (k / n < m) × (k % n < n)
place_of m zero k h = absurd (omega (arith, mul-zero m))
place_of m (suc n) k h =
    let e = div-add-mod' k (suc n) in
    (e, lt_of_mul-lt-mul_right (suc n) (omega arith), mod-lt k (omega arith))

module _ (l N n m : ℕ) (s : List ℕ) (size : length s ≡ m * n) where
  abbrev Apart : Type 0
  Apart = (i j k : ℕ) → i < m → j < n → k < n → get_or s (i * n + j) 0 ≡ get_or s (i * n + k) 0 → j ≡ k

  pub done_rows : ((k : ℕ) → k < length s → get_or s k 0 < N) → Apart → rows_answer l N n s ≡ Ok tt
  unfolding rows_answer past_key repeats_in_row same_from
  done_rows below apart =
      both (done_first Index l (past_key N s) s (λ k h. lt-leb N (get_or s k 0) (below k h)))
      (done_first Repeat l (repeats_in_row n s) s
      (λ k h.
      let p = place_of m n k (omega arith) in
      some_none (same_from (k - k % n) s k) (k % n)
      (λ j q. ne_eqb (get_or s (k - k % n + j) 0) (get_or s k 0)
      (λ t.
      let z : k - k % n ≡ k / n * n = omega (arith, p.0) in
      let u : get_or s (k / n * n + j) 0 ≡ get_or s (k / n * n + k % n) 0 =
      ap (λ (x : ℕ). get_or s (x + j) 0) (sym z) ∙ t ∙ ap (λ (x : ℕ). get_or s x 0) (sym p.0) in
      omega (arith, apart (k / n) j (k % n) p.1 (omega (arith, p.2)) p.2 u)))))

  -- what done tells of two places of a row
  earlier : rows_answer l N n s ≡ Ok tt → (i j k : ℕ) → i < m → j < k → k < n → get_or s (i * n + j) 0 ≡ get_or s (i * n + k) 0 → ⊥
  unfolding rows_answer repeats_in_row same_from
  earlier e i j k hi hj hk t =
      let at = i * n + k in
      let r : at % n ≡ k = digits_mod i hk in
      let z : at - at % n ≡ i * n = omega arith in
      let h : at < length s = omega (arith, digits_lt hi hk) in
      let f = first_done_at Repeat l (repeats_in_row n s) s (then_done _ _ e) at h in
      eqb-false _ _ (none_below (same_from (at - at % n) s at) (at % n) j f (omega arith))
      (ap (λ (x : ℕ). get_or s (x + j) 0) z ∙ t)

  pub rows_apart : rows_answer l N n s ≡ Ok tt → Apart
  rows_apart e i j k hi hj hk t =
      elim (dec_le (j + 1) k) [
        | yes q ↦ absurd (earlier e i j k hi (omega arith) hk t)
        | no q ↦ elim (dec_le (k + 1) j) [ yes p ↦ absurd (earlier e i k j hi (omega arith) hj (sym t)) | no p ↦ omega arith ]
      ]

-- ---- FLIP whitening

pub done_whitening : (l inst : ℕ) (s : List ℕ) → (inst ≤ 2 → (k : ℕ) → k < length s → get_or s k 0 ≡ 0) → white_answer l inst s ≡ Ok tt
unfolding white_answer
done_whitening l inst s h = by (ltb 2 inst) refl
  where
    by : (b : Bool) → ltb 2 inst ≡ b → choose b (Ok tt) (first_answer Whitening l (is_one s) s) ≡ Ok tt
    by true e = refl
    by false e = none_one l s (h (ltb-false 2 inst e))

pub whitening_plain : (l inst : ℕ) (s : List ℕ) → white_answer l inst s ≡ Ok tt → ((k : ℕ) → k < length s → get_or s k 0 ≤ 1)
    → inst ≤ 2 → (k : ℕ) → k < length s → get_or s k 0 ≡ 0
unfolding white_answer is_one
whitening_plain l inst s e b h k q =
    let f : first_answer Whitening l (is_one s) s ≡ Ok tt = rw (le-ltb 2 inst h) at e in
    let z : get_or s k 0 ≡ 1 → ⊥ = eqb-false _ _ (first_done_at Whitening l (is_one s) s f k q) in
    omega (arith, b k q)

-- ---- a wiring

-- The judges accept what may be lent, as whatever list l of a call.
module _ (inst m : ℕ) (idx wh : List ℕ) (lent : Wired inst m idx wh) where
  pub wired_numbers : numbers_answer inst m ≡ Ok tt
  wired_numbers = done_numbers inst m lent.least lent.most lent.some lent.few

  pub wired_lengths : (l : ℕ) → wiring_lengths l inst m (length idx) (length wh) ≡ Ok tt
  unfolding wiring_lengths
  wired_lengths l = both (done_length l _ _ lent.indices) (done_length (l + 1) _ _ lent.whitening)

  pub wired_rows : (l : ℕ) → wiring_rows l inst idx wh ≡ Ok tt
  unfolding wiring_rows
  wired_rows l =
      both (done_rows l (key_bits inst) (row_bits inst) m idx lent.indices lent.below lent.distinct)
      (done_whitening (l + 1) inst wh lent.plain)

-- And nothing else.
pub done_wired : (l inst m : ℕ) (idx wh : List ℕ) → numbers_answer inst m ≡ Ok tt
    → wiring_lengths l inst m (length idx) (length wh) ≡ Ok tt → bits_answer (l + 1) wh ≡ Ok tt → wiring_rows l inst idx wh ≡ Ok tt → Wired inst m idx wh
unfolding wiring_lengths wiring_rows
done_wired l inst m idx wh n e b r =
    let k = numbers_done inst m n in
    let size = length_done l _ _ (first_done _ _ e) in
    let bit = bits_done (l + 1) wh b in
    record {
      least = k.0.0;
      most = k.0.1;
      some = k.1.0;
      few = k.1.1;
      indices = size;
      whitening = length_done (l + 1) _ _ (then_done _ _ e);
      white_bit = bit;
      below = rows_done l _ _ idx (first_done _ _ r);
      distinct = rows_apart l (key_bits inst) (row_bits inst) m idx size (first_done _ _ r);
      plain = whitening_plain (l + 1) inst wh (then_done _ _ r) bit;
    }

-- Kreyvium's: no index, and 128 IV bits
pub kreyvium_wired : (m : ℕ) (iv : List ℕ) → 1 ≤ m → m ≤ 64 → Bits 128 iv → Wired 6 m [] iv
unfolding sizes_of white_bits
kreyvium_wired m iv a b v =
    record {
      least = omega arith;
      most = omega arith;
      some = a;
      few = b;
      indices = sym (mul-zero m);
      whitening = v.size;
      white_bit = v.bit;
      below = λ k h. absurd (omega arith);
      distinct = λ i j k h q. absurd (omega arith);
      plain = λ h. absurd (omega arith);
    }
