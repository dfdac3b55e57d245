-- Eight bits as eight bytes, and how they are stored.
use Prim.Native.Nat.{suc, zero, ℕ, ◌%◌, ◌*◌, ◌+◌, ◌-◌, ◌/◌, ◌<◌, ◌^◌, ◌≤◌}
use mathlib.Core.Path.{ap, refl, sym, ◌∙◌, ◌≡◌}
use mathlib.Core.Logic.{⊎_elim}
use mathlib.Core.List.{List}
use native.Mathlib.Nat.{eq-or-lt_of_le, le_of_suc-le-suc, not-suc-le-zero}
use native.Mathlib.Omega.{arith}
use native.Mathlib.Numerals.{add-one}
use borrow.Rule.Slice.PartMut.{put_mid}
use lib.Bits.{bit_and}
use lib.ListN.{length}
use lib.Pow.{field, mod-mod-pow, shr-shr}
use Rattle.answer.specs.Fronts.{over}
use Rattle.answer.proofs.Over.{over-over, over-tail}
use Rattle.kreyvium.specs.Words.{bit}
use Rattle.filter.specs.Filter.{tab}
use Rattle.filter.proofs.Tab.{tab-length, tab-same, tab_add}
use Rattle.std.specs.Int.{to_le_bytes, w64}
use Rattle.cipher.proofs.Block.{block_bit}

-- what the code makes of them
abbrev pub spread_of : ℕ → ℕ
spread_of b = bit_and (b * 18049651735527937 / 128) 282578800148737 + b % 2 * 72057594037927936

-- ---- there are 256 cases, and each is looked at
unfoldable total : (ℕ → ℕ) → ℕ → ℕ
total f zero = 0
total f (suc n) = total f n + f n

none : (f : ℕ → ℕ) (n : ℕ) → total f n ≡ 0 → (i : ℕ) → i < n → f i ≡ 0
unfolding total
none f zero e i h = absurd (not-suc-le-zero h)
none f (suc n) e i h =
    ⊎_elim (λ (q : i ≡ n). ap f q ∙ omega arith) (λ (l : i < n). none f n (omega arith) i l) (eq-or-lt_of_le (le_of_suc-le-suc h))

-- by how much a byte differs from its bit
unfoldable miss : ℕ → ℕ → ℕ
miss b k = (spread_of b / 2 ^ (8 * k) % 256 - bit b (7 - k)) + (bit b (7 - k) - spread_of b / 2 ^ (8 * k) % 256)

all_right : total (λ b. total (miss b) 8) 256 ≡ 0
unfolding total miss bit
all_right = refl

pub spread_right : (b k : ℕ) → b < 256 → k < 8 → spread_of b / 2 ^ (8 * k) % 256 ≡ bit b (7 - k)
unfolding miss
spread_right b k h g =
    let e : miss b k ≡ 0 = none (miss b) 8 (none (λ b. total (miss b) 8) 256 all_right b h) k g in
    equal (spread_of b / 2 ^ (8 * k) % 256) (bit b (7 - k)) e
  where
    equal : (x y : ℕ) → (x - y) + (y - x) ≡ 0 → x ≡ y
    equal x y e = omega arith

-- a word's bytes, the lowest first, are those of a table
pub eight_bytes : (x : ℕ) (f : ℕ → ℕ) {bytes : List ℕ} → bytes ≡ to_le_bytes w64 x → ((k : ℕ) → k < 8 → x / 2 ^ (8 * k) % 256 ≡ f k) → bytes ≡ tab f 8
unfolding tab
eight_bytes x f e h =
    let h0 : x % 256 ≡ f 0 = omega (arith, h 0 (omega arith)) in
    let h1 : x / 256 % 256 ≡ f 1 = h 1 (omega arith) in
    let h2 : x / 65536 % 256 ≡ f 2 = h 2 (omega arith) in
    let h3 : x / 16777216 % 256 ≡ f 3 = h 3 (omega arith) in
    let h4 : x / 4294967296 % 256 ≡ f 4 = h 4 (omega arith) in
    let h5 : x / 1099511627776 % 256 ≡ f 5 = h 5 (omega arith) in
    let h6 : x / 281474976710656 % 256 ≡ f 6 = h 6 (omega arith) in
    let h7 : x / 72057594037927936 % 256 ≡ f 7 = h 7 (omega arith) in
    e ∙ cc

-- a bit of the byte that starts at place i of a block
byte_bit : (z i k : ℕ) → i + 8 ≤ 64 → k < 8 → bit (z / 2 ^ (56 - i) % 256) (7 - k) ≡ block_bit z (i + k)
unfolding bit
byte_bit z i k h l =
    let w = z / 2 ^ (56 - i) in
    let j = 7 - k in
    let e : 8 ≡ suc k + j = omega arith in
    let g : 56 - i + j ≡ 63 - (i + k) = omega arith in
    ap (λ (n : ℕ). w % 2 ^ n / 2 ^ j % 2) e
    ∙ ap (λ (y : ℕ). y % 2) (field w (suc k) j)
    ∙ ap (λ (n : ℕ). w / 2 ^ j % 2 ^ n % 2) (sym (add-one k))
    ∙ mod-mod-pow (w / 2 ^ j) k 1
    ∙ ap (λ (y : ℕ). y % 2) (shr-shr z (56 - i) j ∙ ap (λ (n : ℕ). z / 2 ^ n) g)

-- eight bytes more of a block
pub block_bytes : (z e k : ℕ) (old out bytes : List ℕ) → 8 * e + 8 ≤ 64 → k ≡ 8 → out ≡ over (tab (block_bit z) (8 * e)) old
    → bytes ≡ tab (λ k. bit (z / 2 ^ (56 - 8 * e) % 256) (7 - k)) 8 → put_mid (8 * e) k out bytes ≡ over (tab (block_bit z) (8 * (e + 1))) old
unfolding over
block_bytes z e k old out bytes g m o b =
    let i : ℕ = 8 * e in
    let n : 8 * (e + 1) ≡ i + 8 = omega arith in
    let w = tab (λ k. block_bit z (i + k)) 8 in
    let q : bytes ≡ w = b ∙ tab-same _ _ 8 (λ k l. byte_bit z i k g l) in
    let l : k ≡ length w = omega (arith, tab-length (λ k. block_bit z (i + k)) 8) in
    rw (o, q, n, l)
    (over-tail (tab (block_bit z) i) w old i (tab-length (block_bit z) i) ∙ ap (λ (t : List ℕ). over t old) (sym (tab_add (block_bit z) i 8)))

-- a front that stands in a list already
pub over_twice : (t old out : List ℕ) → out ≡ over t old → out ≡ over t out
over_twice t old out e = e ∙ sym (over-over t t old (omega arith)) ∙ ap (over t) (sym e)
