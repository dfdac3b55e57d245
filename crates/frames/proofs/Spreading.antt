-- Eight bytes that are bits gathered in a word.
use Prim.Native.Nat.{ℕ, ◌+◌, ◌-◌, ◌*◌, ◌/◌, ◌%◌, ◌^◌, ◌<◌, ◌≤◌}
use mathlib.Core.Path.{◌≡◌, sym, ap, ◌∙◌}
use mathlib.Core.List.{List}
use native.Mathlib.Nat.{pow-le-pow_right}
use native.Mathlib.Omega.{arith}
use lib.ListN.{get_or, take, drop}
use lib.Seq.{get_or-take, get_or-drop}
use Rattle.std.specs.Int.{w64, from_le_bytes}
use Rattle.port.specs.Bytes.{value_at}
use Rattle.port.proofs.Digits.{digits_below, digits_split}

-- The product has no carry below place 64, and the eight stand in order from place 56 on.
gathered : (a b c d e f g h : ℕ) → a ≤ 1 → b ≤ 1 → c ≤ 1 → d ≤ 1 → e ≤ 1 → f ≤ 1 → g ≤ 1 → h ≤ 1
    → (a + b * 256 + c * 65536 + d * 16777216 + e * 4294967296 + f * 1099511627776 + g * 281474976710656 + h * 72057594037927936) * 9241421688590303745 % 2 ^ 64 / 2 ^ 56
    ≡ a * 128 + b * 64 + c * 32 + d * 16 + e * 8 + f * 4 + g * 2 + h
gathered a b c d e f g h p q r s t u v w =
    let low = a * 18049651735527937 + b * 9024825867763968 + c * 4512412933881856 + d * 2256206466908160 + e * 1128103225065472 + f * 564049465049088 + g * 281474976710656 in
    let top = a * 128 + b * 64 + c * 32 + d * 16 + e * 8 + f * 4 + g * 2 + h in
    let up = b * 128 + c * 32832 + d * 8405024 + e * 2151686160 + f * 550831656968 + g * 141012904183812 + h * 36099303471055874 in
    let z = (a + b * 256 + c * 65536 + d * 16777216 + e * 4294967296 + f * 1099511627776 + g * 281474976710656 + h * 72057594037927936) * 9241421688590303745 in
    let parts : z ≡ low + (top + up * 256) * 2 ^ 56 = omega arith in
    ap (λ (x : ℕ). x % 2 ^ 64 / 2 ^ 56) parts ∙ middle low top up (omega arith) (omega arith)
  where
    middle : (x m y : ℕ) → x < 2 ^ 56 → m < 256 → (x + (m + y * 256) * 2 ^ 56) % 2 ^ 64 / 2 ^ 56 ≡ m
    middle x m y j k = omega arith

-- For code that reads the eight bytes as a part.
pub eight_gathered : (s : List ℕ) (p : ℕ) {t : List ℕ} {y x : ℕ} → ((i : ℕ) → get_or s i 0 ≤ 1) → t ≡ take (p + 8 - p) (drop p s) → y ≡ from_le_bytes w64 t
    → x ≡ y * 9241421688590303745 % 2 ^ 64 → x / 2 ^ 56 ≡ value_at 2 s p 8
unfolding value_at
eight_gathered s p {t} {y} {x} b e f m =
    let g : ℕ → ℕ = λ i. get_or s (p + i) 0 in
    let size : p + 8 - p ≡ 8 = omega arith in
    let u : t ≡ take 8 (drop p s) = rw size at e in
    let at : (i : ℕ) → i < 8 → get_or t i 0 ≡ g i = λ i h. rw u (get_or-take 8 (drop p s) i 0 h ∙ get_or-drop p s i 0) in
    let v : y ≡ g 0 + g 1 * 256 + g 2 * 65536 + g 3 * 16777216 + g 4 * 4294967296 + g 5 * 1099511627776 + g 6 * 281474976710656 + g 7 * 72057594037927936 =
    omega (arith, f, at 0 (omega arith), at 1 (omega arith), at 2 (omega arith), at 3 (omega arith), at 4 (omega arith), at 5 (omega arith), at 6 (omega arith), at 7 (omega arith)) in
    ap (λ (z : ℕ). z / 2 ^ 56) (m ∙ ap (λ (z : ℕ). z * 9241421688590303745 % 2 ^ 64) v)
    ∙ gathered (g 0) (g 1) (g 2) (g 3) (g 4) (g 5) (g 6) (g 7) (b (p + 0)) (b (p + 1)) (b (p + 2)) (b (p + 3)) (b (p + 4)) (b (p + 5)) (b (p + 6)) (b (p + 7))
    ∙ omega arith

-- one turn of the loop: eight bits more, for which there is room
pub digits_eight : (s : List ℕ) (at i x y : ℕ) → x ≡ value_at 2 s at (8 * i) → y ≡ value_at 2 s (at + 8 * i) 8 → x * 256 + y ≡ value_at 2 s at (8 * (i + 1))
digits_eight s at i x y e f =
    let q : 8 * (i + 1) ≡ 8 * i + 8 = omega arith in
    rw (e, f, q) (sym (digits_split 2 s at (8 * i) 8))

pub eight_room : (s : List ℕ) (at i x : ℕ) → ((k : ℕ) → get_or s k 0 ≤ 1) → i + 8 ≤ 64 → x ≡ value_at 2 s at i → x < 2 ^ 56
eight_room s at i x b h e =
    let l : value_at 2 s at i < 2 ^ i = digits_below 2 s at i (λ k g. omega (arith, b (at + k))) in
    let k : i ≤ 56 = omega arith in
    let m : 2 ^ i ≤ 2 ^ 56 = pow-le-pow_right (omega arith) k in
    omega arith
