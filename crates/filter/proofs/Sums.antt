-- Laws of products, sums of monomials and counts, as the loops take them.
use Prim.Native.Nat.{ℕ, zero, suc, ◌+◌, ◌*◌, ◌/◌, ◌%◌, ◌<◌, ◌≤◌, min}
use mathlib.Core.Path.{◌≡◌, refl, ap, sym, ◌∙◌}
use mathlib.Core.List.{List, [], ◌∷◌}
use native.Mathlib.Omega.{arith}
use native.Mathlib.Nat.{add-mul, mul_assoc, one-mul, zero-mul, add-mul-mod_self_left}
use native.Mathlib.Numerals.{add-one}
use native.Mathlib.Decide.{dec_le}
use lib.Bits.{bit_and, bit_xor, and_zero_l, and_comm, and_mask, xor_add_and, xor_lt}
use lib.ListN.{length, get_or, take, drop, drop_of_length-le}
use lib.Seq.{drop-cons}
use Rattle.std.proofs.lemmas.List.{take_min}
use borrow.Author.Tests.{le-leb, lt-leb}
use Rattle.filter.specs.Filter.{prod, sum_of, ones, threshold}
use Rattle.filter.specs.Instances.{degrees_of}

-- Products of bits.
pub bit_times : (p q : ℕ) → p ≤ 1 → q ≤ 1 → p * q ≤ 1
bit_times zero q h k = rw (zero-mul q) (omega arith)
bit_times (suc zero) q h k = rw (one-mul q) k
bit_times (suc (suc p)) q h k = absurd (omega arith)

pub and_bit : (p x : ℕ) → p ≤ 1 → bit_and p x ≡ p * (x % 2)
and_bit zero x h = and_zero_l x ∙ sym (zero-mul (x % 2))
and_bit (suc zero) x h = and_comm 1 x ∙ and_mask x 1 ∙ sym (one-mul (x % 2))
and_bit (suc (suc p)) x h = absurd (omega arith)

pub xor_bit : (a b : ℕ) → a < 2 → b < 2 → bit_xor a b ≡ (a + b) % 2
xor_bit a b h k = omega (arith, xor_add_and a b, xor_lt 1 a b h k)

odd_times : (x r : ℕ) → (x % 2 * r) % 2 ≡ (x * r) % 2
odd_times x r =
    let e : x ≡ x % 2 + 2 * (x / 2) = omega arith in
    sym (ap (λ (y : ℕ). (y * r) % 2) e ∙ ap (λ (y : ℕ). y % 2) (add-mul (x % 2) (2 * (x / 2)) r ∙ ap (λ (y : ℕ). x % 2 * r + y) (mul_assoc 2 (x / 2) r))
    ∙ add-mul-mod_self_left (x % 2 * r) 2 (x / 2 * r))

-- the running product p, then what is left
pub product-start : (x : List ℕ) → (1 * prod (drop 0 x)) % 2 ≡ prod x % 2
product-start x = ap (λ (y : ℕ). y % 2) (one-mul (prod x))

pub product-step : (x : List ℕ) (p i : ℕ) → p ≤ 1 → i < length x → (p * prod (drop i x)) % 2 ≡ prod x % 2
    → (p * (get_or x i 0 % 2) * prod (drop (i + 1) x)) % 2 ≡ prod x % 2
unfolding prod
product-step x p i b h e = step p b ∙ ap (λ (l : List ℕ). (p * prod l) % 2) (sym (drop-cons x i 0 h)) ∙ e
  where
    step : (p : ℕ) → p ≤ 1 → (p * (get_or x i 0 % 2) * prod (drop (i + 1) x)) % 2 ≡ (p * (get_or x i 0 * prod (drop (suc i) x))) % 2
    step zero b = rw (zero-mul (get_or x i 0 % 2), zero-mul (prod (drop (i + 1) x)), zero-mul (get_or x i 0 * prod (drop (suc i) x)))
    step (suc zero) b =
        rw (one-mul (get_or x i 0 % 2), one-mul (get_or x i 0 * prod (drop (suc i) x)), add-one i) (odd_times (get_or x i 0) (prod (drop (suc i) x)))
    step (suc (suc p)) b = absurd (omega arith)

pub product_end : (x : List ℕ) (p i : ℕ) → p ≤ 1 → length x ≤ i → (p * prod (drop i x)) % 2 ≡ prod x % 2 → p ≡ prod x % 2
unfolding prod
product_end x p i b h e =
    let d : prod (drop i x) ≡ 1 = rw (drop_of_length-le x h) in
    let q : p * prod (drop i x) ≡ p = rw d (mul_one' p) in
    omega (arith, e)
  where
    mul_one' : (p : ℕ) → p * 1 ≡ p
    mul_one' p = omega arith

-- Sums of monomials.
pub regroup : (a b c : ℕ) → (a + (b + c) % 2) % 2 ≡ ((a + b) % 2 + c) % 2
regroup a b c = omega arith

pub sum_of-bit : (ds xs : List ℕ) → sum_of ds xs < 2
unfolding sum_of
sum_of-bit [] xs = omega arith
sum_of-bit (d ∷ ds) xs = omega arith

-- where too few variables are left, a monomial takes them all
drop_min : (d : ℕ) (xs : List ℕ) → drop (min d (length xs)) xs ≡ drop d xs
drop_min d xs =
    elim (dec_le d (length xs)) [
      | yes p ↦ (let e : min d (length xs) ≡ d = omega arith in rw e)
      | no p ↦ (let e : min d (length xs) ≡ length xs = omega arith in
          rw e (drop_of_length-le xs {i = length xs} (omega arith) ∙ sym (drop_of_length-le xs {i = d} (omega arith))))
    ]

parity : (acc P S T t : ℕ) → t ≡ P % 2 → (acc + (P + S) % 2) % 2 ≡ T → ((acc + t) % 2 + S) % 2 ≡ T
parity acc P S T t p r = rw p (sym (moved acc P S) ∙ r)
  where
    moved : (acc P S : ℕ) → (acc + (P + S) % 2) % 2 ≡ ((acc + P % 2) % 2 + S) % 2
    moved acc P S = omega arith

-- The loop over the degrees: acc is the sum of the first j monomials, and rest the variables that they leave.
module _ (ds xs : List ℕ) where
  pub record Sum (acc : ℕ) (rest : List ℕ) (j : ℕ) : Type 0 where
    pub bit : acc < 2
    pub adds : (acc + sum_of (drop j ds) rest) % 2 ≡ sum_of ds xs

  pub sum-start : Sum 0 xs 0
  sum-start = record { bit = omega arith; adds = omega (arith, sum_of-bit ds xs) }

  pub sum_step : (acc j size t i : ℕ) (rest part after : List ℕ) → Sum acc rest j → j < length ds → size ≡ min (get_or ds j 0) (length rest)
      → part ≡ take size rest → after ≡ drop size rest → t ≡ prod part % 2 → i ≡ j + 1 → Sum (bit_xor acc t) after i
  unfolding sum_of
  sum_step acc j size t i rest part after v l e p q h n =
      let d = get_or ds j 0 in
      let s : sum_of (drop j ds) rest ≡ (prod (take d rest) + sum_of (drop i ds) (drop d rest)) % 2 = rw (n, drop-cons ds j 0, add-one) in
      let m : t ≡ prod (take d rest) % 2 = h ∙ ap (λ (y : List ℕ). prod y % 2) (p ∙ rw e (take_min d rest)) in
      let r : after ≡ drop d rest = q ∙ rw e (drop_min d rest) in
      rw (xor_bit acc t v.bit (omega arith), r)
      record { bit = omega arith; adds = parity acc (prod (take d rest)) _ _ t m (rw (← s) v.adds) }

  pub sum_end : (acc j : ℕ) (rest : List ℕ) → Sum acc rest j → length ds ≤ j → acc ≡ sum_of ds xs
  unfolding sum_of
  sum_end acc j rest v l =
      let z : sum_of (drop j ds) rest ≡ 0 = rw (drop_of_length-le ds l) in
      omega (arith, v.bit, v.adds)

-- the part of FiLIP-144's threshold
pub last_part : (xs rest part : List ℕ) → rest ≡ drop (min (length xs) 81) xs → part ≡ take (min (length rest) 63) rest → part ≡ take 63 (drop 81 xs)
last_part xs rest part e f =
    let d : rest ≡ drop 81 xs = e ∙ rw (min_comm (length xs) 81) (drop_min 81 xs) in
    f ∙ rw (min_comm (length rest) 63) (take_min 63 rest) ∙ ap (take 63) d
  where
    min_comm : (a b : ℕ) → min a b ≡ min b a
    min_comm a b = omega arith

-- Counts.
pub ones-start : (x : List ℕ) → 0 + ones (drop 0 x) ≡ ones x
ones-start x = omega arith

pub ones_step : (x : List ℕ) (n i : ℕ) → i < length x → n + ones (drop i x) ≡ ones x → n + get_or x i 0 % 2 + ones (drop (i + 1) x) ≡ ones x
unfolding ones
ones_step x n i h e =
    let s : ones (drop i x) ≡ get_or x i 0 % 2 + ones (drop (suc i) x) = rw (drop-cons x i 0) in
    rw (add-one i) (omega arith)

pub ones_end : (x : List ℕ) (n i : ℕ) → length x ≤ i → n + ones (drop i x) ≡ ones x → n ≡ ones x
unfolding ones
ones_end x n i h e = let d : ones (drop i x) ≡ 0 = rw (drop_of_length-le x h) in omega arith

pub ones_le : (x : List ℕ) → ones x ≤ length x
unfolding ones
ones_le [] = omega arith
ones_le (y ∷ x) = omega (arith, ones_le x)

-- the threshold without a branch
pub threshold_is : (x : List ℕ) → length x ≤ 63 → (ones x + 32) / 64 ≡ threshold 32 x
unfolding threshold
threshold_is x h =
    elim (dec_le 32 (ones x)) [
      | yes p ↦ rw (le-leb 32 (ones x) p) (omega (arith, ones_le x))
      | no p ↦ (let q : ones x < 32 = omega arith in rw (lt-leb 32 (ones x) q) (omega arith))
    ]

pub degrees_off : (i : ℕ) → (i ≤ 5 → i ≡ 0) → [] ≡ degrees_of i
unfolding degrees_of
degrees_off zero h = refl
degrees_off (suc zero) h = absurd (omega (arith, h (omega arith)))
degrees_off (suc (suc zero)) h = absurd (omega (arith, h (omega arith)))
degrees_off (suc (suc (suc zero))) h = absurd (omega (arith, h (omega arith)))
degrees_off (suc (suc (suc (suc zero)))) h = absurd (omega (arith, h (omega arith)))
degrees_off (suc (suc (suc (suc (suc zero))))) h = absurd (omega (arith, h (omega arith)))
degrees_off (suc (suc (suc (suc (suc (suc i)))))) h = refl
