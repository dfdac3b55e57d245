-- Bits of a word exchanged group by group, until all are in the other order.
use Prim.Native.Nat.{ℕ, zero, suc, ◌+◌, ◌*◌, ◌-◌, ◌/◌, ◌%◌, ◌^◌, ◌<◌, ◌≤◌}
use mathlib.Core.Path.{◌≡◌, refl, sym, ap, ap₂, ◌∙◌}
use mathlib.Core.Bool.{Bool, true, false, not}
use native.Mathlib.Omega.{arith}
use native.Mathlib.Nat.{mul_assoc, add_comm}
use lib.Dec.{leb, eqb}
use lib.Bits.{bit_and}
use lib.Pow.{field, mod-mod-pow, shl-shr, shr-shr, pow-add}
use lib.Seq.{ext_get_or}
use borrow.Author.Tests.{leb-true, leb-false, eqb-true, not-false}
use Rattle.answer.specs.Choose.{choose}
use Rattle.answer.specs.First.{first_from, some}
use Rattle.answer.proofs.Search.{none_below}
use Rattle.kreyvium.specs.Words.{bits, bit, tops}
use Rattle.kreyvium.proofs.Bits.{bit_xor_lem, bit_and_lem, bit_small, get_d_bits, length-bits, length-tops, tops-at}
use Rattle.frames.specs.Inner.{exchanged_by}

-- ---- a bit of a word that was moved up

kept_bit : (z i : ℕ) → i < 64 → z % 2 ^ 64 / 2 ^ i % 2 ≡ z / 2 ^ i % 2
kept_bit z i h =
    let j = 63 - i in
    let e : 64 ≡ (j + 1) + i = omega arith in
    ap (λ (n : ℕ). z % 2 ^ n / 2 ^ i % 2) e
    ∙ ap (λ (y : ℕ). y % 2) (field z (j + 1) i)
    ∙ mod-mod-pow (z / 2 ^ i) j 1

moved-bit : (y k i : ℕ) → i < 64 → bit (y * 2 ^ k % 2 ^ 64) i ≡ choose (leb k i) (bit y (i - k)) 0
unfolding bit
moved-bit y k i h = kept_bit (y * 2 ^ k) i h ∙ by (leb k i) refl
  where
    even : (a : ℕ) → a * 2 % 2 ≡ 0
    even a = omega arith

    by : (b : Bool) → leb k i ≡ b → y * 2 ^ k / 2 ^ i % 2 ≡ choose b (y / 2 ^ (i - k) % 2) 0
    by false l =
        let j = k - 1 - i in
        let e : k ≡ (j + 1) + i = omega (arith, leb-false k i l) in
        let p : y * 2 ^ k ≡ y * 2 ^ j * 2 * 2 ^ i =
        ap (λ (n : ℕ). y * 2 ^ n) e
        ∙ ap (λ (x : ℕ). y * x) (pow-add 2 (j + 1) i ∙ ap (λ (x : ℕ). x * 2 ^ i) (pow-add 2 j 1))
        ∙ sym (mul_assoc y (2 ^ j * 2) (2 ^ i))
        ∙ ap (λ (x : ℕ). x * 2 ^ i) (sym (mul_assoc y (2 ^ j) 2)) in
        ap (λ (x : ℕ). x / 2 ^ i % 2) p ∙ ap (λ (x : ℕ). x % 2) (shl-shr (y * 2 ^ j * 2) i) ∙ even (y * 2 ^ j)
    by true l =
        let e : i ≡ k + (i - k) = omega (arith, leb-true k i l) in
        ap (λ (n : ℕ). y * 2 ^ k / 2 ^ n % 2) e
        ∙ ap (λ (x : ℕ). x % 2) (sym (shr-shr (y * 2 ^ k) k (i - k)) ∙ ap (λ (x : ℕ). x / 2 ^ (i - k)) (shl-shr y k))

-- ---- one exchange

-- 0 for a place of a lower group, which is under the mask, 1 for one of an upper group
abbrev side : ℕ → ℕ → ℕ
side k i = i / k % 2

-- where the bit that comes to place i was
unfoldable from : ℕ → ℕ → ℕ
from k i = choose (eqb (side k i) 0) (i + k) (i - k)

-- what a mask for groups of k has at place i
record Mask (k mask i : ℕ) : Type 0 where
  under : bit mask i ≡ 1 - side k i
  above : choose (leb k i) (bit mask (i - k)) 0 ≡ side k i
  inside : from k i ≤ 63

-- there are 64 places, and each is looked at
unfoldable wrong : ℕ → ℕ → ℕ → Bool
wrong k mask i =
    not (choose (eqb (bit mask i) (1 - side k i)) (choose (eqb (choose (leb k i) (bit mask (i - k)) 0) (side k i)) (leb (from k i) 63) false) false)

mask_at : (k mask : ℕ) → some (wrong k mask) 64 ≡ false → (i : ℕ) → i < 64 → Mask k mask i
unfolding wrong
mask_at k mask e i l = parts _ _ _ refl refl refl (none_below (wrong k mask) 64 i e l)
  where
    apart : true ≡ false → ⊥
    apart w = let z : ◌≡◌ {A = ℕ} 1 0 = ap (λ (b : Bool). choose b 1 0) w in omega arith

    parts : (a b c : Bool) → eqb (bit mask i) (1 - side k i) ≡ a → eqb (choose (leb k i) (bit mask (i - k)) 0) (side k i) ≡ b → leb (from k i) 63 ≡ c
        → not (choose a (choose b c false) false) ≡ false → Mask k mask i
    parts true true true p q r w = record { under = eqb-true _ _ p; above = eqb-true _ _ q; inside = leb-true _ _ r }
    parts true true false p q r w = absurd (apart w)
    parts true false c p q r w = absurd (apart w)
    parts false b c p q r w = absurd (apart w)

down : (x k i : ℕ) → bit (x / 2 ^ k) i ≡ bit x (i + k)
unfolding bit
down x k i = ap (λ (y : ℕ). y % 2) (shr-shr x k i ∙ ap (λ (n : ℕ). x / 2 ^ n) (add_comm k i))

exchanged_bit : (k mask x i : ℕ) → i < 64 → Mask k mask i → bit (exchanged_by k mask x) i ≡ bit x (from k i)
unfolding from
exchanged_bit k mask x i h m =
    bit_xor_lem (bit_and (x / 2 ^ k) mask) (bit_and x mask * 2 ^ k % 2 ^ 64) i
    ∙ ap₂ (λ (a b : ℕ). (a + b) % 2)
    (bit_and_lem (x / 2 ^ k) mask i ∙ ap₂ ◌*◌ (down x k i) m.under)
    (moved-bit (bit_and x mask) k i h ∙ ap (λ (y : ℕ). choose (leb k i) y 0) (bit_and_lem x mask (i - k)) ∙ out (leb k i) (bit x (i - k)) (bit mask (i - k)) ∙ ap (λ (y : ℕ). bit x (i - k) * y) m.above)
    ∙ sides (side k i) (bit x (i + k)) (bit x (i - k)) (omega arith) (bit_small x (i + k)) (bit_small x (i - k))
    ∙ sym (inner (eqb (side k i) 0))
  where
    out : (b : Bool) (p q : ℕ) → choose b (p * q) 0 ≡ p * choose b q 0
    out true p q = refl
    out false p q = omega arith

    sides : (g p q : ℕ) → g ≤ 1 → p ≤ 1 → q ≤ 1 → (p * (1 - g) + q * g) % 2 ≡ choose (eqb g 0) p q
    sides zero p q h a b = omega arith
    sides (suc zero) p q h a b = omega arith
    sides (suc (suc g)) p q h a b = absurd (omega arith)

    inner : (b : Bool) → bit x (choose b (i + k) (i - k)) ≡ choose b (bit x (i + k)) (bit x (i - k))
    inner true = refl
    inner false = refl

-- ---- all six

abbrev all : ℕ → ℕ
all x = exchanged_by 32 4294967295 (exchanged_by 16 281470681808895 (exchanged_by 8 71777214294589695 (exchanged_by 4 1085102592571150095 (exchanged_by 2 3689348814741910323 (exchanged_by 1 6148914691236517205 x)))))

-- where the bit that comes to place i was before all of them
unfoldable origin : ℕ → ℕ
origin i = from 1 (from 2 (from 4 (from 8 (from 16 (from 32 i)))))

unfoldable astray : ℕ → Bool
astray i = not (eqb (origin i) (63 - i))

masks : (some (wrong 1 6148914691236517205) 64 ≡ false) × (some (wrong 2 3689348814741910323) 64 ≡ false) × (some (wrong 4 1085102592571150095) 64 ≡ false)
    × (some (wrong 8 71777214294589695) 64 ≡ false) × (some (wrong 16 281470681808895) 64 ≡ false) × (some (wrong 32 4294967295) 64 ≡ false)
unfolding wrong from bit first_from
masks = (refl, refl, refl, refl, refl, refl)

none_astray : some astray 64 ≡ false
unfolding astray origin from first_from
none_astray = refl

-- a word is in the other order
pub all_reversed : (x : ℕ) → bits 64 (all x) ≡ tops 64 x
unfolding origin astray
all_reversed x =
    ext_get_or 0 (bits 64 (all x)) (tops 64 x) (length-bits 64 (all x) ∙ sym (length-tops 64 x))
    (λ i g.
    let h : i < 64 = omega (arith, length-bits 64 (all x)) in
    get_d_bits 64 (all x) i h ∙ moves i h ∙ ap (bit x) (eqb-true _ _ (not-false _ (none_below astray 64 i none_astray h))) ∙ sym (tops-at 64 x i h))
  where
    moves : (i : ℕ) → i < 64 → bit (all x) i ≡ bit x (origin i)
    moves i h =
        let m32 = mask_at 32 4294967295 masks.5 i h in
        let m16 = mask_at 16 281470681808895 masks.4 (from 32 i) (omega (arith, m32.inside)) in
        let m8 = mask_at 8 71777214294589695 masks.3 (from 16 (from 32 i)) (omega (arith, m16.inside)) in
        let m4 = mask_at 4 1085102592571150095 masks.2 (from 8 (from 16 (from 32 i))) (omega (arith, m8.inside)) in
        let m2 = mask_at 2 3689348814741910323 masks.1 (from 4 (from 8 (from 16 (from 32 i)))) (omega (arith, m4.inside)) in
        let m1 = mask_at 1 6148914691236517205 masks.0 (from 2 (from 4 (from 8 (from 16 (from 32 i))))) (omega (arith, m2.inside)) in
        exchanged_bit 32 4294967295 _ i h m32
        ∙ exchanged_bit 16 281470681808895 _ (from 32 i) (omega (arith, m32.inside)) m16
        ∙ exchanged_bit 8 71777214294589695 _ _ (omega (arith, m16.inside)) m8
        ∙ exchanged_bit 4 1085102592571150095 _ _ (omega (arith, m8.inside)) m4
        ∙ exchanged_bit 2 3689348814741910323 _ _ (omega (arith, m4.inside)) m2
        ∙ exchanged_bit 1 6148914691236517205 x _ (omega (arith, m2.inside)) m1
