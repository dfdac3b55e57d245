-- Bits packed in two parts, side by side.
use Prim.Native.Nat.{ℕ, zero, suc, ◌+◌, ◌*◌, ◌-◌, ◌/◌, ◌%◌, ◌^◌, ◌<◌, ◌≤◌}
use mathlib.Core.Path.{◌≡◌, refl, ap, ap₂, sym, ◌∙◌}
use mathlib.Core.List.{List}
use native.Mathlib.Omega.{arith}
use native.Mathlib.Nat.{pow-suc, mul_assoc}
use lib.ListN.{length, get_or, take, drop}
use Rattle.kreyvium.specs.Words.{packed}
use Rattle.kreyvium.proofs.Packed.{part-down, part_up}
use Rattle.cipher.specs.Inner.{apart}

-- n bits of a list from a place on
abbrev pub part : List ℕ → ℕ → ℕ → ℕ
part s at n = packed (take n (drop at s))

pub part_join : (s : List ℕ) (at a b : ℕ) → at + a ≤ length s → part s at (a + b) ≡ part s at a + part s (at + a) b * 2 ^ a
unfolding packed
part_join s at zero b h =
    let z : 0 + b ≡ b = omega arith in
    let y : at + 0 ≡ at = omega arith in
    rw (z, y) (omega arith)
part_join s at (suc a) b h =
    let e : suc a + b ≡ suc (a + b) = omega arith in
    let f : suc at + a ≡ at + suc a = omega arith in
    ap (part s at) e
    ∙ part-down s at (a + b) (omega arith)
    ∙ ap (λ (x : ℕ). x * 2 + get_or s at 0) (part_join s (suc at) a b (omega arith))
    ∙ regroup (part s (suc at) a) (part s (suc at + a) b) (2 ^ a) (get_or s at 0)
    ∙ ap₂ (λ (x y : ℕ). x + y) (sym (part-down s at a (omega arith))) (ap₂ (λ (x y : ℕ). part s x b * y) f (sym (pow-suc 2 a)))
  where
    spread : (p u g : ℕ) → (p + u) * 2 + g ≡ (p * 2 + g) + u * 2
    spread p u g = omega arith

    regroup : (p q t g : ℕ) → (p + q * t) * 2 + g ≡ (p * 2 + g) + q * (t * 2)
    regroup p q t g = spread p (q * t) g ∙ ap (λ (x : ℕ). (p * 2 + g) + x) (mul_assoc q t 2)

-- Four bits eight places apart, and four more beside them: the product has no carry, and the eight stand in order
-- from place 21 on.
gathered : (a b c d e f g h : ℕ) → a ≤ 1 → b ≤ 1 → c ≤ 1 → d ≤ 1 → e ≤ 1 → f ≤ 1 → g ≤ 1 → h ≤ 1
    → ((a + b * 256 + c * 65536 + d * 16777216) + (e + f * 256 + g * 65536 + h * 16777216) * 16) * 2113665 / 2097152 % 256
    ≡ a + b * 2 + c * 4 + d * 8 + e * 16 + f * 32 + g * 64 + h * 128
gathered a b c d e f g h p q r s t u v w =
    let below : ℕ = a * 16513 + b * 33024 + c * 65536 + e * 264208 + f * 528384 + g * 1048576 in
    let above : ℕ = b + c * 258 + d * 66052 + f * 16 + g * 4128 + h * 1056832 in
    let parts : ((a + b * 256 + c * 65536 + d * 16777216) + (e + f * 256 + g * 65536 + h * 16777216) * 16) * 2113665
    ≡ below + (a + b * 2 + c * 4 + d * 8 + e * 16 + f * 32 + g * 64 + h * 128 + above * 256) * 2097152 = omega arith in
    ap (λ (x : ℕ). x / 2097152 % 256) parts
    ∙ middle below (a + b * 2 + c * 4 + d * 8 + e * 16 + f * 32 + g * 64 + h * 128) above (omega arith) (omega arith)
  where
    middle : (x m y : ℕ) → x < 2097152 → m < 256 → (x + (m + y * 256) * 2097152) / 2097152 % 256 ≡ m
    middle x m y j k = omega arith

pub part_gathered : (s : List ℕ) (at : ℕ) → at + 8 ≤ length s → ((i : ℕ) → get_or s i 0 ≤ 1)
    → (apart s at + apart s (at + 4) * 16) * 2113665 / 2097152 % 256 ≡ part s at 8
unfolding apart packed
part_gathered s at h b =
    let g : ℕ → ℕ = λ i. get_or s i 0 in
    let k : ℕ = at + 4 in
    let e5 : g (at + 4 + 1) ≡ g (at + 5) = ap g (omega arith) in
    let e6 : g (at + 4 + 2) ≡ g (at + 6) = ap g (omega arith) in
    let e7 : g (at + 4 + 3) ≡ g (at + 7) = ap g (omega arith) in
    let e0 : g (at + 0) ≡ g at = ap g (omega arith) in
    let none : part s at 0 ≡ 0 = refl in
    gathered (g at) (g (at + 1)) (g (at + 2)) (g (at + 3)) (g k) (g (k + 1)) (g (k + 2)) (g (k + 3)) (b at) (b (at + 1)) (b (at + 2)) (b (at + 3)) (b k) (b (k + 1)) (b (k + 2)) (b (k + 3))
    ∙ omega (arith, none, e0, e5, e6, e7, part_up s at 0 (omega arith), part_up s at 1 (omega arith), part_up s at 2 (omega arith), part_up s at 3 (omega arith), part_up s at 4 (omega arith), part_up s at 5 (omega arith), part_up s at 6 (omega arith), part_up s at 7 (omega arith))

-- For the loop from the last eight down.
pub part_eight : (s : List ℕ) (from i w e : ℕ) → 0 < i → i ≤ 64 → i % 8 ≡ 0 → from + 64 ≤ length s
    → w ≡ part s (from + i) (64 - i) → e ≡ part s (from + (i - 8)) 8 → w * 256 + e ≡ part s (from + (i - 8)) (64 - (i - 8))
part_eight s from i w e p q m h u v =
    let n : 64 - (i - 8) ≡ 8 + (64 - i) = omega arith in
    let o : from + (i - 8) + 8 ≡ from + i = omega arith in
    sym (ap (part s (from + (i - 8))) n
    ∙ part_join s (from + (i - 8)) 8 (64 - i) (omega arith)
    ∙ ap₂ (λ (x y : ℕ). x + y * 256) (sym v) (ap (λ (j : ℕ). part s j (64 - i)) o ∙ sym u)
    ∙ omega arith)
