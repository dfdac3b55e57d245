-- Bits packed into a word: for callers that hold key and IV as lists of bits and lend them as words.
use mathlib.Core.Path.{◌≡◌, refl, ap, ap₂, sym, ◌∙◌}
use mathlib.Core.List.{List, [], ◌∷◌, ◌++◌}
use Prim.Native.Nat.{ℕ, zero, suc, ◌+◌, ◌*◌, ◌^◌, ◌≤◌, ◌<◌}
use native.Mathlib.Nat.{not-suc-le-zero, le_of_suc-le-suc, pow-suc}
use native.Mathlib.Omega.{arith}
use lib.ListN.{length, take, drop, get_or, length-drop, length-take, take-append-drop}
use lib.Pow.{pow_pos}
use lib.Seq.{drop-cons, get_or-drop, length-take-le, take_all}
use Rattle.kreyvium.specs.Words.{bits, packed}
use Rattle.kreyvium.proofs.Bits.{bits_cons}

pub packed_lt : (n : ℕ) (l : List ℕ) → length l ≤ n → ((i : ℕ) → get_or l i 0 ≤ 1) → packed l < 2 ^ n
unfolding packed
packed_lt n [] e h = pow_pos n
packed_lt zero (b ∷ l) e h = absurd (not-suc-le-zero e)
packed_lt (suc n) (b ∷ l) e h =
    let p = packed_lt n l (le_of_suc-le-suc e) (λ i. h (suc i)) in
    rw pow-suc (omega (arith, h 0))

none : bits 0 0 ≡ []
unfolding bits
none = refl

pub bits-packed : (l : List ℕ) → ((i : ℕ) → get_or l i 0 ≤ 1) → bits (length l) (packed l) ≡ l
unfolding packed
bits-packed [] h = none
bits-packed (b ∷ l) h =
    bits_cons (length l) (packed l) b (h 0) ∙ ap (λ (r : List ℕ). b ∷ r) (bits-packed l (λ i. h (suc i)))

packed_up : (l : List ℕ) (i : ℕ) → i < length l → packed (take (suc i) l) ≡ get_or l i 0 * 2 ^ i + packed (take i l)
unfolding packed
packed_up [] i h = absurd (not-suc-le-zero h)
packed_up (b ∷ l) zero h = omega arith
packed_up (b ∷ l) (suc i) h = rw (packed_up l i (le_of_suc-le-suc h), pow-suc) (omega arith)

take_small : (n : ℕ) (l : List ℕ) → ((i : ℕ) → get_or l i 0 ≤ 1) → (i : ℕ) → get_or (take n l) i 0 ≤ 1
take_small zero l h zero = omega arith
take_small zero l h (suc i) = omega arith
take_small (suc n) [] h i = h i
take_small (suc n) (b ∷ l) h zero = h 0
take_small (suc n) (b ∷ l) h (suc i) = take_small n l (λ j. h (suc j)) i

-- ---- n bits of a list from a place on
module _ (s : List ℕ) (from n : ℕ) where
  part_small : ((i : ℕ) → get_or s i 0 ≤ 1) → (i : ℕ) → get_or (take n (drop from s)) i 0 ≤ 1
  part_small h = take_small n (drop from s) (λ i. rw get_or-drop (h (from + i)))

  pub part_lt : (m : ℕ) → n ≤ m → ((i : ℕ) → get_or s i 0 ≤ 1) → packed (take n (drop from s)) < 2 ^ m
  part_lt m e h = packed_lt m (take n (drop from s)) (rw length-take (omega arith)) (part_small h)

  pub part-bits : from + n ≤ length s → ((i : ℕ) → get_or s i 0 ≤ 1) → bits n (packed (take n (drop from s))) ≡ take n (drop from s)
  part-bits e h =
      let l : length (take n (drop from s)) ≡ n = length-take-le n (drop from s) (rw length-drop (omega arith)) in
      ap (λ (k : ℕ). bits k (packed (take n (drop from s)))) (sym l) ∙ bits-packed (take n (drop from s)) (part_small h)

  -- one bit more, packed from the last one down or from the first one up
  pub part-down : from < length s → packed (take (suc n) (drop from s)) ≡ packed (take n (drop (suc from) s)) * 2 + get_or s from 0
  unfolding packed
  part-down h = rw (drop-cons s from 0 h)

  pub part_up : from + n < length s → packed (take (suc n) (drop from s)) ≡ get_or s (from + n) 0 * 2 ^ n + packed (take n (drop from s))
  part_up h =
      packed_up (drop from s) n (rw length-drop (omega arith))
      ∙ ap (λ (b : ℕ). b * 2 ^ n + packed (take n (drop from s))) (get_or-drop from s n 0)

-- a key or an IV as two words
pub two_words : (s : List ℕ) → length s ≡ 128 → ((i : ℕ) → get_or s i 0 ≤ 1)
    → bits 64 (packed (take 64 s)) ++ bits 64 (packed (take 64 (drop 64 s))) ≡ s
two_words s e h =
    ap₂ ◌++◌ (part-bits s 0 64 (omega arith) h) (part-bits s 64 64 (omega arith) h ∙ take_all 64 (drop 64 s) (rw length-drop (omega arith)))
    ∙ take-append-drop 64 s
