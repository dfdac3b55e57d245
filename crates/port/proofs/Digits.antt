-- Laws of numbers made of digits, the first the highest.
use Prim.Native.Nat.{ℕ, zero, suc, ◌+◌, ◌*◌, ◌-◌, ◌/◌, ◌%◌, ◌^◌, ◌<◌, ◌≤◌}
use mathlib.Core.Path.{◌≡◌, refl, sym, ap, ap₂, ◌∙◌}
use mathlib.Core.List.{List}
use native.Mathlib.Nat.{add_assoc, add-suc, add-zero, add-mul, suc-mul, mul_assoc, mul-le-mul_left, mul-le-mul_right, pow-zero, pow-suc}
use native.Mathlib.Numerals.{add-one}
use native.Mathlib.Omega.{arith}
use lib.ListN.{get_or}
use lib.Pow.{high, shr-shr, mod-pow-add, pow-add}
use Rattle.filter.proofs.Tab.{tab-at}
use Rattle.kreyvium.specs.Words.{bit}
use Rattle.port.specs.Bytes.{value_at, packed, unpacked}

-- For a loop: nothing read, one digit more.
pub digits_none : (base : ℕ) (s : List ℕ) (p : ℕ) → 0 ≡ value_at base s p 0
unfolding value_at
digits_none base s p = refl

pub digits_more : (base : ℕ) (s : List ℕ) (p n x : ℕ) → x ≡ value_at base s p n → x * base + get_or s (p + n) 0 ≡ value_at base s p (n + 1)
unfolding value_at
digits_more base s p n x e = rw (add-one, e)

-- two lists agree, from a place each on, for n places
abbrev pub Agree : List ℕ → ℕ → List ℕ → ℕ → ℕ → Type 0
Agree s p t q n = (i : ℕ) → i < n → get_or s (p + i) 0 ≡ get_or t (q + i) 0

pub digits_agree : (base : ℕ) (s t : List ℕ) (p q n : ℕ) → Agree s p t q n → value_at base s p n ≡ value_at base t q n
unfolding value_at
digits_agree base s t p q zero h = refl
digits_agree base s t p q (suc n) h =
    ap₂ (λ (a b : ℕ). a * base + b) (digits_agree base s t p q n (λ i l. h i (omega arith))) (h n (omega arith))

-- a number of n digits is below base ^ n
pub below_step : (x d b q : ℕ) → x < q → d < b → x * b + d < q * b
below_step x d b q h g =
    let k : suc x * b ≤ q * b = mul-le-mul_right b (omega arith) in
    omega (arith, suc-mul x b)

pub digits_below : (base : ℕ) (s : List ℕ) (p n : ℕ) → ((i : ℕ) → i < n → get_or s (p + i) 0 < base) → value_at base s p n < base ^ n
unfolding value_at
digits_below base s p zero h = rw (pow-zero base) (omega arith)
digits_below base s p (suc n) h =
    rw (pow-suc base n) (below_step (value_at base s p n) _ base (base ^ n) (digits_below base s p n (λ i l. h i (omega arith))) (h n (omega arith)))

-- so a number that is read digit by digit never outgrows n digits
grows : (b i k : ℕ) → 0 < b → b ^ i ≤ b ^ (i + k)
grows b i zero h = rw (add-zero i) (omega arith)
grows b i (suc k) h =
    rw (add-suc i k, pow-suc b (i + k)) (at_least (b ^ i) (b ^ (i + k)) (grows b i k h))
  where
    at_least : (p q : ℕ) → p ≤ q → p ≤ q * b
    at_least p q g = let e : q * 1 ≤ q * b = mul-le-mul_left q (omega arith) in omega arith

pub next_fits : (b n i x d : ℕ) → i < n → x < b ^ i → d < b → x * b + d < b ^ n
next_fits b n i x d h g l =
    let k = n - suc i in
    let e : suc i + k ≡ n = omega arith in
    let p : b ^ suc i ≤ b ^ n = rw e at (grows b (suc i) k (omega arith)) in
    omega (arith, rw (← pow-suc b i) at (below_step x d b (b ^ i) g l))

-- the first m digits and the n after them
pub digits_split : (base : ℕ) (s : List ℕ) (p m n : ℕ) → value_at base s p (m + n) ≡ value_at base s p m * base ^ n + value_at base s (p + m) n
unfolding value_at
digits_split base s p m zero = rw (add-zero, pow-zero base) (omega arith)
digits_split base s p m (suc n) =
    rw (add-suc m n, digits_split base s p m n, pow-suc base n, add_assoc p m n) (moved (value_at base s p m) (base ^ n) (value_at base s (p + m) n) base _)
  where
    moved : (x q y b d : ℕ) → (x * q + y) * b + d ≡ x * (q * b) + (y * b + d)
    moved x q y b d = rw (add-mul (x * q) y b, mul_assoc x q b) (omega arith)

-- ---- bits

-- bit n - 1 - i of n binary digits is digit i
pub binary_bit : (s : List ℕ) (p n i : ℕ) → ((k : ℕ) → k < n → get_or s (p + k) 0 ≤ 1) → i < n → bit (value_at 2 s p n) (n - 1 - i) ≡ get_or s (p + i) 0
unfolding bit value_at
binary_bit s p n i h l =
    let k = n - 1 - i in
    let e : n ≡ suc i + k = omega arith in
    let y : value_at 2 s (p + suc i) k < 2 ^ k = digits_below 2 s (p + suc i) k (λ j g. small j (omega arith)) in
    ap (λ (x : ℕ). x / 2 ^ k % 2) (ap (value_at 2 s p) e ∙ digits_split 2 s p (suc i) k)
    ∙ ap (λ (x : ℕ). x % 2) (high (value_at 2 s p (suc i)) k y)
    ∙ last (value_at 2 s p i) (get_or s (p + i) 0) (h i l)
  where
    last : (x d : ℕ) → d ≤ 1 → (x * 2 + d) % 2 ≡ d
    last x d g = omega arith

    small : (j : ℕ) → suc i + j < n → get_or s (p + suc i + j) 0 < 2
    small j g = let q : p + suc i + j ≡ p + (suc i + j) = omega arith in rw q (omega (arith, h (suc i + j) g))

-- bit 8 * n - 1 - i of n bytes is bit 7 - i % 8 of byte i / 8
pub byte_bit : (s : List ℕ) (p n i : ℕ) → ((k : ℕ) → k < n → get_or s (p + k) 0 < 256) → i < 8 * n
    → bit (value_at 256 s p n) (8 * n - 1 - i) ≡ bit (get_or s (p + i / 8) 0) (7 - i % 8)
unfolding bit value_at
byte_bit s p n i h l =
    let j = i / 8 in
    let t = 7 - i % 8 in
    let k = n - 1 - j in
    let e : n ≡ suc j + k = omega arith in
    let g : 8 * n - 1 - i ≡ 8 * k + t = omega arith in
    let y : value_at 256 s (p + suc j) k < 2 ^ (8 * k) = rw (eights k) at (digits_below 256 s (p + suc j) k (λ q g. small q (omega arith))) in
    ap₂ (λ (x m : ℕ). x / 2 ^ m % 2) (ap (value_at 256 s p) e ∙ digits_split 256 s p (suc j) k) g
    ∙ ap (λ (x : ℕ). x % 2) (sym (shr-shr _ (8 * k) t))
    ∙ ap (λ (x : ℕ). (value_at 256 s p (suc j) * x + value_at 256 s (p + suc j) k) / 2 ^ (8 * k) / 2 ^ t % 2) (eights k)
    ∙ ap (λ (x : ℕ). x / 2 ^ t % 2) (high (value_at 256 s p (suc j)) (8 * k) y)
    ∙ within (value_at 256 s p j) (get_or s (p + j) 0) t (omega arith)
  where
    eights : (k : ℕ) → 256 ^ k ≡ 2 ^ (8 * k)
    eights zero = refl
    eights (suc k) = let q : 8 * suc k ≡ 8 * k + 8 = omega arith in pow-suc 256 k ∙ ap (λ (x : ℕ). x * 256) (eights k) ∙ sym (ap (λ (x : ℕ). 2 ^ x) q ∙ pow-add 2 (8 * k) 8)

    small : (q : ℕ) → suc (i / 8) + q < n → get_or s (p + suc (i / 8) + q) 0 < 256
    small q g = let z : p + suc (i / 8) + q ≡ p + (suc (i / 8) + q) = omega arith in rw z (h (suc (i / 8) + q) g)

    within : (x d t : ℕ) → t < 8 → (x * 256 + d) / 2 ^ t % 2 ≡ d / 2 ^ t % 2
    within x d zero g = omega arith
    within x d (suc zero) g = omega arith
    within x d (suc (suc zero)) g = omega arith
    within x d (suc (suc (suc zero))) g = omega arith
    within x d (suc (suc (suc (suc zero)))) g = omega arith
    within x d (suc (suc (suc (suc (suc zero))))) g = omega arith
    within x d (suc (suc (suc (suc (suc (suc zero)))))) g = omega arith
    within x d (suc (suc (suc (suc (suc (suc (suc zero))))))) g = omega arith
    within x d (suc (suc (suc (suc (suc (suc (suc (suc t)))))))) g = absurd (omega arith)

-- n binary digits that are bits of x, the last of them bit k, are those n bits of x
pub digits_field : (s : List ℕ) (p n x k : ℕ) → ((i : ℕ) → i < n → get_or s (p + i) 0 ≡ bit x (k + (n - 1 - i))) → value_at 2 s p n ≡ x / 2 ^ k % 2 ^ n
unfolding value_at bit
digits_field s p zero x k h = omega arith
digits_field s p (suc n) x k h =
    let e : (i : ℕ) → i < n → get_or s (p + i) 0 ≡ bit x (suc k + (n - 1 - i)) = λ i l. h i (omega arith) ∙ ap (bit x) (omega arith) in
    let q : k + (suc n - 1 - n) ≡ k = omega arith in
    ap₂ (λ (a b : ℕ). a * 2 + b) (digits_field s p n x (suc k) e) (h n (omega arith) ∙ ap (bit x) q)
    ∙ ap (λ (y : ℕ). y % 2 ^ n * 2 + x / 2 ^ k % 2) (sym (shr-shr x k 1 ∙ ap (λ (j : ℕ). x / 2 ^ j) (add-one k)))
    ∙ sym (ap (λ (j : ℕ). x / 2 ^ k % 2 ^ j) (sym (add-one n)) ∙ mod-pow-add (x / 2 ^ k) n 1)

-- the bits of n bytes are the number of the bytes
unpacked-at : (s : List ℕ) (p n i : ℕ) → i < n → get_or (unpacked s p n) i 0 ≡ bit (get_or s (p + i / 8) 0) (7 - i % 8)
unfolding unpacked
unpacked-at s p n i h = tab-at (λ i. bit (get_or s (p + i / 8) 0) (7 - i % 8)) n i h

pub digits_unpacked : (s : List ℕ) (p n : ℕ) → ((k : ℕ) → k < n → get_or s (p + k) 0 < 256) → value_at 2 (unpacked s p (8 * n)) 0 (8 * n) ≡ value_at 256 s p n
unfolding value_at
digits_unpacked s p zero h = refl
digits_unpacked s p (suc n) h =
    let u = unpacked s p (8 * suc n) in
    let e : 8 * suc n ≡ 8 * n + 8 = omega arith in
    let front : value_at 2 u 0 (8 * n) ≡ value_at 2 (unpacked s p (8 * n)) 0 (8 * n) =
    digits_agree 2 u (unpacked s p (8 * n)) 0 0 (8 * n) (λ i l. unpacked-at s p (8 * suc n) (0 + i) (omega arith) ∙ sym (unpacked-at s p (8 * n) (0 + i) (omega arith))) in
    let last : value_at 2 u (0 + 8 * n) 8 ≡ get_or s (p + n) 0 / 1 % 256 =
    digits_field u (0 + 8 * n) 8 (get_or s (p + n) 0) 0
    (λ i l.
    unpacked-at s p (8 * suc n) (0 + 8 * n + i) (omega arith)
    ∙ ap₂ (λ (q j : ℕ). bit (get_or s q 0) j) (omega arith) (omega arith)) in
    ap (value_at 2 u 0) e
    ∙ digits_split 2 u 0 (8 * n) 8
    ∙ ap₂ (λ (a b : ℕ). a * 256 + b) (front ∙ digits_unpacked s p n (λ k l. h k (omega arith))) (last ∙ small (get_or s (p + n) 0) (h n (omega arith)))
  where
    small : (x : ℕ) → x < 256 → x / 1 % 256 ≡ x
    small x g = omega arith

-- and bits packed into bytes are the same number
pub digits_packed : (n : ℕ) (v : List ℕ) (k : ℕ) → k ≤ n → value_at 2 v 0 (8 * k) ≡ value_at 256 (packed n v) 0 k
unfolding value_at packed
digits_packed n v zero h = refl
digits_packed n v (suc k) h =
    let e : 8 * suc k ≡ 8 * k + 8 = omega arith in
    let z : 0 + 8 * k ≡ 8 * (0 + k) = omega arith in
    ap (value_at 2 v 0) e
    ∙ digits_split 2 v 0 (8 * k) 8
    ∙ ap₂ (λ (x q : ℕ). x * 256 + value_at 2 v q 8) (digits_packed n v k (omega arith)) z
    ∙ ap (λ (y : ℕ). value_at 256 (packed n v) 0 k * 256 + y) (sym (tab-at (λ i. value_at 2 v (8 * i) 8) n (0 + k) (omega arith)))
