-- Words of 64 bits against the lists that they are read from and written to.
use Prim.Native.Nat.{ℕ, ◌+◌, ◌*◌, ◌-◌, ◌/◌, ◌%◌, ◌^◌, ◌<◌, ◌≤◌}
use mathlib.Core.Path.{◌≡◌, refl, sym, ap, ap₂, ◌∙◌}
use mathlib.Core.List.{List, [], ◌∷◌, ◌++◌}
use native.Mathlib.Omega.{arith}
use lib.Bits.{bit_xor}
use lib.ListN.{length, get_or, take, drop, length-drop, take-append-drop}
use lib.Seq.{ext_get_or, take-add, get_or-take, get_or-drop, length-take-le, take_all}
use Rattle.std.specs.Int.{w64, to_be_bytes, to_le_bytes}
use borrow.Rule.Slice.PartMut.{put_mid}
use Rattle.answer.specs.Fronts.{over}
use Rattle.answer.proofs.Over.{over_none}
use Rattle.filter.specs.Filter.{tab}
use Rattle.answer.specs.Bits.{added}
use Rattle.answer.proofs.Added.{added-length, added-at}
use Rattle.filter.proofs.Tab.{tab-length, tab-at}
use Rattle.kreyvium.specs.Words.{bit, tops}
use Rattle.kreyvium.proofs.Bits.{length-tops, tops-at, bit_small, bit_xor_lem}
use Rattle.port.specs.Bytes.{value_at, packed, unpacked}
use Rattle.port.proofs.Digits.{binary_bit, byte_bit, digits_field}
use Rattle.port.proofs.Parts.{wrote_mid, part_after}
use Rattle.sequence.specs.Files.{iv_word_at}
use Rattle.sequence.proofs.Judged.{word_there}

-- read from eight bytes
pub bytes_tops : (s : List ℕ) (p x : ℕ) → x ≡ iv_word_at s p → p + 8 ≤ length s → ((k : ℕ) → k < 8 → get_or s (p + k) 0 < 256) → tops 64 x ≡ unpacked s p 64
unfolding unpacked
bytes_tops s p x e h g =
    ext_get_or 0 (tops 64 x) (tab _ 64) (length-tops 64 x ∙ sym (tab-length _ 64))
    (λ i l.
    let k : i < 64 = omega (arith, length-tops 64 x) in
    tops-at 64 x i k ∙ ap (λ (y : ℕ). bit y (63 - i)) (e ∙ word_there s p h) ∙ byte_bit s p 8 i g k ∙ sym (tab-at _ 64 i k))

-- read from 64 bits
pub bits-tops : (s : List ℕ) (p x : ℕ) → x ≡ value_at 2 s p 64 → ((i : ℕ) → get_or s i 0 ≤ 1) → p + 64 ≤ length s → tops 64 x ≡ take 64 (drop p s)
bits-tops s p x e h l =
    let n : length (take 64 (drop p s)) ≡ 64 = length-take-le 64 (drop p s) (omega (arith, length-drop p s)) in
    ext_get_or 0 (tops 64 x) (take 64 (drop p s)) (length-tops 64 x ∙ sym n)
    (λ i g.
    let k : i < 64 = omega (arith, length-tops 64 x) in
    tops-at 64 x i k
    ∙ ap (λ (y : ℕ). bit y (63 - i)) e
    ∙ binary_bit s p 64 i (λ j q. h (p + j)) k
    ∙ sym (get_or-take 64 (drop p s) i 0 k ∙ get_or-drop p s i 0))

-- byte i of a word
pub word_byte : (x i : ℕ) → i < 8 → x / 2 ^ (56 - 8 * i) % 256 ≡ value_at 2 (tops 64 x) (8 * i) 8
word_byte x i h =
    sym (digits_field (tops 64 x) (8 * i) 8 x (56 - 8 * i) (λ j l. tops-at 64 x (8 * i + j) (omega arith) ∙ ap (bit x) (omega arith)))

-- a word as eight bytes
same_eight : {a b c d e f g h a' b' c' d' e' f' g' h' : ℕ} → a ≡ a' → b ≡ b' → c ≡ c' → d ≡ d' → e ≡ e' → f ≡ f' → g ≡ g' → h ≡ h'
    → ◌≡◌ {A = List ℕ} (a ∷ b ∷ c ∷ d ∷ e ∷ f ∷ g ∷ h ∷ []) (a' ∷ b' ∷ c' ∷ d' ∷ e' ∷ f' ∷ g' ∷ h' ∷ [])
same_eight a b c d e f g h = cc

pub word_bytes : (x : ℕ) → to_be_bytes w64 x ≡ packed 8 (tops 64 x)
unfolding packed tab
word_bytes x =
    let w = word_byte x in
    same_eight (w 0 (omega arith)) (w 1 (omega arith)) (w 2 (omega arith)) (w 3 (omega arith)) (w 4 (omega arith)) (w 5 (omega arith)) (w 6 (omega arith)) (omega (arith, w 7 (omega arith)))

-- a list of eight by its places
by_eight : (l : List ℕ) → length l ≡ 8
    → ◌≡◌ {A = List ℕ} (get_or l 0 0 ∷ get_or l 1 0 ∷ get_or l 2 0 ∷ get_or l 3 0 ∷ get_or l 4 0 ∷ get_or l 5 0 ∷ get_or l 6 0 ∷ get_or l 7 0 ∷ []) l
by_eight [] q = absurd (omega arith)
by_eight (a ∷ []) q = absurd (omega arith)
by_eight (a ∷ b ∷ []) q = absurd (omega arith)
by_eight (a ∷ b ∷ c ∷ []) q = absurd (omega arith)
by_eight (a ∷ b ∷ c ∷ d ∷ []) q = absurd (omega arith)
by_eight (a ∷ b ∷ c ∷ d ∷ e ∷ []) q = absurd (omega arith)
by_eight (a ∷ b ∷ c ∷ d ∷ e ∷ f ∷ []) q = absurd (omega arith)
by_eight (a ∷ b ∷ c ∷ d ∷ e ∷ f ∷ g ∷ []) q = absurd (omega arith)
by_eight (a ∷ b ∷ c ∷ d ∷ e ∷ f ∷ g ∷ h ∷ []) q = refl
by_eight (a ∷ b ∷ c ∷ d ∷ e ∷ f ∷ g ∷ h ∷ i ∷ l) q = absurd (omega arith)

-- eight of its bits as eight bytes, in the word of the bytes that spreads them
pub bit_bytes : (x i : ℕ) {bytes : List ℕ} → i < 8 → bytes ≡ tab (λ k. bit (x / 2 ^ (56 - 8 * i) % 256) (7 - k)) 8 → bytes ≡ take 8 (drop (8 * i) (tops 64 x))
unfolding tab
bit_bytes x i h e =
    let t = tops 64 x in
    let size : length (take 8 (drop (8 * i) t)) ≡ 8 = length-take-le 8 (drop (8 * i) t) (omega (arith, length-drop (8 * i) t, length-tops 64 x)) in
    let at : (k : ℕ) → k < 8 → bit (x / 2 ^ (56 - 8 * i) % 256) (7 - k) ≡ get_or (take 8 (drop (8 * i) t)) k 0 = λ k l.
    ap (λ (b : ℕ). bit b (7 - k)) (word_byte x i h)
    ∙ binary_bit t (8 * i) 8 k (λ j q. rw (tops-at 64 x (8 * i + j) (omega arith)) (bit_small x _)) l
    ∙ sym (get_or-take 8 (drop (8 * i) t) k 0 l ∙ get_or-drop (8 * i) t k 0) in
    e
    ∙ same_eight (at 0 (omega arith)) (at 1 (omega arith)) (at 2 (omega arith)) (at 3 (omega arith)) (at 4 (omega arith)) (at 5 (omega arith)) (at 6 (omega arith)) (at 7 (omega arith))
    ∙ by_eight _ size

-- For a loop: none of its bits yet, eight more, all.
pub eight_none : (x : ℕ) (old : List ℕ) → old ≡ over (take 0 (tops 64 x)) old
eight_none x old = sym (over_none old)

pub eight_more : (x i : ℕ) (old : List ℕ) {out part : List ℕ} → i < 8 → 64 ≤ length old → out ≡ over (take (8 * i) (tops 64 x)) old → part ≡ take 8 (drop (8 * i) (tops 64 x))
    → put_mid (8 * i) (8 * i + 8 - 8 * i) out part ≡ over (take (8 * (i + 1)) (tops 64 x)) old
eight_more x i old {out} {part} h l e p =
    let t = tops 64 x in
    let q : 8 * (i + 1) ≡ 8 * i + 8 = omega arith in
    let size : length (take (8 * i) t) ≡ 8 * i = length-take-le (8 * i) t (omega (arith, length-tops 64 x)) in
    let part_size : length part ≡ 8 = ap length p ∙ length-take-le 8 (drop (8 * i) t) (omega (arith, length-drop (8 * i) t, length-tops 64 x)) in
    part_after (take (8 * i) t) part old (8 * i) size e (wrote_mid (8 * i) 8 out part part_size)
    ∙ ap (λ (w : List ℕ). over w old) (ap (λ (w : List ℕ). take (8 * i) t ++ w) p ∙ sym (take-add (8 * i) 8 t) ∙ ap (λ (n : ℕ). take n t) (sym q))

pub eight_all : (x : ℕ) → take 64 (tops 64 x) ≡ tops 64 x
eight_all x = take_all 64 (tops 64 x) (omega (arith, length-tops 64 x))

-- two words added
pub tops-added : (x z : ℕ) → tops 64 (bit_xor x z) ≡ added (tops 64 x) (tops 64 z)
tops-added x z =
    let n : length (added (tops 64 x) (tops 64 z)) ≡ 64 =
    added-length (tops 64 x) (tops 64 z) (omega (arith, length-tops 64 x, length-tops 64 z)) ∙ length-tops 64 x in
    ext_get_or 0 (tops 64 (bit_xor x z)) (added (tops 64 x) (tops 64 z)) (length-tops 64 (bit_xor x z) ∙ sym n)
    (λ i g.
    let k : i < 64 = omega (arith, length-tops 64 (bit_xor x z)) in
    tops-at 64 (bit_xor x z) i k
    ∙ bit_xor_lem x z (63 - i)
    ∙ sym (added-at (tops 64 x) (tops 64 z) i (omega (arith, length-tops 64 x)) (omega (arith, length-tops 64 z))
    ∙ ap₂ (λ (a b : ℕ). (a + b) % 2) (tops-at 64 x i k) (tops-at 64 z i k)))

-- 128 bits are the first 64 and the others
pub two_halves : (s : List ℕ) → length s ≡ 128 → take 64 (drop 0 s) ++ take 64 (drop 64 s) ≡ s
two_halves s e =
    ap (λ (t : List ℕ). take 64 s ++ t) (take_all 64 (drop 64 s) (omega (arith, length-drop 64 s))) ∙ take-append-drop 64 s
