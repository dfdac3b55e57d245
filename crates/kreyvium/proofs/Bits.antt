-- Numbers as lists of bits: what a list of bits makes of a word, one bit of a word, words joined and shifted.
use mathlib.Core.Path.{◌≡◌, refl, ap, sym, ◌∙◌}
use mathlib.Core.Logic.{⊎_elim}
use mathlib.Core.List.{List, [], ◌∷◌, ◌++◌}
use Prim.Native.Nat.{ℕ, zero, suc, ◌+◌, ◌*◌, ◌-◌, ◌/◌, ◌%◌, ◌^◌, ◌≤◌, ◌<◌, min}
use native.Mathlib.Nat.{not-suc-le-zero, le_of_suc-le-suc, div-one, div-lt_iff_lt-mul, pow-suc, zero-lt-suc, suc-add, eq-or-lt_of_le}
use native.Mathlib.Omega.{arith}
use native.Mathlib.Numerals.{add-one, one-add}
use lib.Bits.{bit_and, bit_xor, xor_shr, and_shr, xor_add_and, and_step, block_half, block_odd}
use lib.ListN.{length, take, drop, get_or, length-append, get_or-append}
use lib.Pow.{field, mod-mod-pow, shr-shr}
use lib.Seq.{get_or_at, ext_get_or}
use Rattle.kreyvium.specs.Words.{bits, bit, tops}

pub length-bits : (n x : ℕ) → length (bits n x) ≡ n
unfolding bits
length-bits zero x = refl
length-bits (suc n) x = ap suc (length-bits n (x / 2))

-- ---- words made of bits
-- from the last bit down: b enters below the others
pub bits_cons : (n x b : ℕ) → b ≤ 1 → bits (suc n) (x * 2 + b) ≡ b ∷ bits n x
unfolding bits
bits_cons n x b h =
    let p : (x * 2 + b) % 2 ≡ b = omega arith in
    let q : (x * 2 + b) / 2 ≡ x = omega arith in
    rw (p, q)

half_lt_pow : {a : ℕ} (k : ℕ) → a < 2 ^ suc k → a / 2 < 2 ^ k
half_lt_pow {a} k h = (div-lt_iff_lt-mul (zero-lt-suc 1)).1 (rw pow-suc at h)

-- y above the n bits of x
pub bits-join : (n m x y : ℕ) → x < 2 ^ n → bits (n + m) (y * 2 ^ n + x) ≡ bits n x ++ bits m y
unfolding bits
bits-join zero m x y h =
    let e : 0 + m ≡ m = omega arith in
    let f : y * 1 + x ≡ y = omega arith in
    rw (e, f)
bits-join (suc n) m x y h =
    rw (suc-add n m, block_odd y n x, block_half y n x)
    (ap (λ (l : List ℕ). x % 2 ∷ l) (bits-join n m (x / 2) y (half_lt_pow n h)))

-- the bits from n on do not count
pub bits_low : (n k x : ℕ) → n ≤ k → bits n (x % 2 ^ k) ≡ bits n x
unfolding bits
bits_low zero k x h = refl
bits_low (suc n) zero x h = absurd (not-suc-le-zero h)
bits_low (suc n) (suc k) x h =
    rw (← add-one k, field x k 1, mod-mod-pow x k 1) (ap (λ (l : List ℕ). x % 2 ∷ l) (bits_low n k (x / 2) (le_of_suc-le-suc h)))

pub bits-take : (n m x : ℕ) → m ≤ n → take m (bits n x) ≡ bits m x
unfolding bits
bits-take n zero x h = refl
bits-take zero (suc m) x h = absurd (not-suc-le-zero h)
bits-take (suc n) (suc m) x h = ap (λ (l : List ℕ). x % 2 ∷ l) (bits-take n m (x / 2) (le_of_suc-le-suc h))

pub bits-drop : (o n x : ℕ) → drop o (bits (o + n) x) ≡ bits n (x / 2 ^ o)
unfolding bits
bits-drop zero n x =
    let e : 0 + n ≡ n = omega arith in
    let f : x / 1 ≡ x = omega arith in
    rw (e, f)
bits-drop (suc o) n x =
    rw (suc-add o n) (bits-drop o n (x / 2) ∙ ap (bits n) (shr-shr x 1 o ∙ ap (λ (j : ℕ). x / 2 ^ j) (one-add o)))

-- a word is no more than its bits
pub bits_decide : (n x y : ℕ) → x < 2 ^ n → y < 2 ^ n → bits n x ≡ bits n y → x ≡ y
unfolding bits
bits_decide zero x y h k e = omega arith
bits_decide (suc n) x y h k e =
    let low : x % 2 ≡ y % 2 = cc in
    let rest : bits n (x / 2) ≡ bits n (y / 2) = cc in
    let high = bits_decide n (x / 2) (y / 2) (half_lt_pow n h) (half_lt_pow n k) rest in
    omega arith

-- ---- one bit of a word
-- a bit further up is one of the half
half : (x i : ℕ) → x / 2 / 2 ^ i % 2 ≡ x / 2 ^ suc i % 2
half x i = ap (λ (y : ℕ). y % 2) (shr-shr x 1 i ∙ ap (λ (j : ℕ). x / 2 ^ j) (one-add i))

pub get_d_bits : (n x i : ℕ) → i < n → get_or (bits n x) i 0 ≡ bit x i
unfolding bits bit
get_d_bits zero x i h = absurd (not-suc-le-zero h)
get_d_bits (suc n) x zero h = sym (ap (λ (y : ℕ). y % 2) (div-one x))
get_d_bits (suc n) x (suc i) h = get_d_bits n (x / 2) i (le_of_suc-le-suc h) ∙ half x i

pub bit_small : (x i : ℕ) → bit x i ≤ 1
unfolding bit
bit_small x i = omega arith

pub bits_small : (n x i : ℕ) → get_or (bits n x) i 0 ≤ 1
unfolding bits
bits_small zero x zero = omega arith
bits_small zero x (suc i) = omega arith
bits_small (suc n) x zero = omega arith
bits_small (suc n) x (suc i) = bits_small n (x / 2) i

pub bit_xor_lem : (a b i : ℕ) → bit (bit_xor a b) i ≡ (bit a i + bit b i) % 2
unfolding bit
bit_xor_lem a b i = rw (xor_shr a b i) (omega (arith, xor_add_and (a / 2 ^ i) (b / 2 ^ i)))

product : (x y : ℕ) → x < 2 → y < 2 → min x y ≡ x * y
product zero y h g = omega arith
product (suc zero) y h g = omega arith
product (suc (suc x)) y h g = absurd (omega arith)

and_odd : (a b : ℕ) → bit_and a b % 2 ≡ a % 2 * (b % 2)
and_odd a b =
    let h : min (a % 2) (b % 2) < 2 = omega arith in
    let e : bit_and a b % 2 ≡ min (a % 2) (b % 2) = omega (arith, and_step a b) in
    e ∙ product (a % 2) (b % 2) (omega arith) (omega arith)

pub bit_and_lem : (a b i : ℕ) → bit (bit_and a b) i ≡ bit a i * bit b i
unfolding bit
bit_and_lem a b i = rw (and_shr a b i) (and_odd (a / 2 ^ i) (b / 2 ^ i))

-- for sums of several words: simp (bit-xor, bit-and, odd-sum)
pub odd_sum : (x y : ℕ) → (x % 2 + y) % 2 ≡ (x + y) % 2
odd_sum x y = omega arith

-- the first of a sum, known by its parity
pub odd_first : (x s y : ℕ) → x ≡ s % 2 → (x + y) % 2 ≡ (s + y) % 2
odd_first x s y e = ap (λ (z : ℕ). (z + y) % 2) e ∙ odd_sum s y

-- and both of two
pub odd_both : (x y s t : ℕ) → x ≡ s % 2 → y ≡ t % 2 → (x + y) % 2 ≡ (s + t) % 2
odd_both x y s t e f =
    odd_first x s y e ∙ turned s y ∙ odd_first y t s f ∙ turned t s
  where
    turned : (a b : ℕ) → (a + b) % 2 ≡ (b + a) % 2
    turned a b = omega arith

-- ---- the first bits of a block
pub length-tops : (n z : ℕ) → length (tops n z) ≡ n
unfolding tops
length-tops zero z = refl
length-tops (suc n) z = rw (length-append, add-one) (ap suc (length-tops n z))

pub tops-at : (n z i : ℕ) → i < n → get_or (tops n z) i 0 ≡ bit z (63 - i)
unfolding tops
tops-at zero z i h = absurd (not-suc-le-zero h)
tops-at (suc n) z i h = ⊎_elim last (λ l. get_or-append (tops n z) _ 0 i (rw length-tops l) ∙ tops-at n z i l) (eq-or-lt_of_le (le_of_suc-le-suc h))
  where
    last : i ≡ n → get_or (tops n z ++ (bit z (63 - n) ∷ [])) i 0 ≡ bit z (63 - i)
    last e = get_or_at (tops n z) (bit z (63 - n)) [] 0 i (length-tops n z ∙ sym e) ∙ ap (λ (k : ℕ). bit z (63 - k)) (sym e)

-- a word is no more than the bits that come out of it
pub tops_decide : (x y : ℕ) → x < 2 ^ 64 → y < 2 ^ 64 → tops 64 x ≡ tops 64 y → x ≡ y
tops_decide x y h k e = bits_decide 64 x y h k (ext_get_or 0 (bits 64 x) (bits 64 y) (rw (length-bits 64 x, length-bits 64 y)) same)
  where
    same : (i : ℕ) → i < length (bits 64 x) → get_or (bits 64 x) i 0 ≡ get_or (bits 64 y) i 0
    same i l =
        let m : i < 64 = rw length-bits at l in
        let q : i ≡ 63 - (63 - i) = omega arith in
        get_d_bits 64 x i m ∙ ap (bit x) q ∙ sym (tops-at 64 x (63 - i) (omega arith)) ∙ ap (λ (t : List ℕ). get_or t (63 - i) 0) e
        ∙ tops-at 64 y (63 - i) (omega arith) ∙ ap (bit y) (sym q) ∙ sym (get_d_bits 64 y i m)
