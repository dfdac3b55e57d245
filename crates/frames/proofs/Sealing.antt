-- What stands in a frame, against the words that it is written from and read as.
use Prim.Native.Nat.{ℕ, zero, suc, ◌+◌, ◌*◌, ◌-◌, ◌/◌, ◌%◌, ◌≤◌}
use mathlib.Core.Path.{◌≡◌, refl, sym, ap, ap₂, ◌∙◌}
use mathlib.Core.List.{List, [], ◌++◌}
use native.Mathlib.Omega.{arith}
use lib.ListN.{length, get_or, take, drop, length-append}
use lib.Seq.{take-append_seam, drop-append_seam, get_or-take, get_or-drop, take_all}
use Rattle.answer.specs.Bits.{added}
use Rattle.answer.specs.Fronts.{over}
use Rattle.answer.proofs.Added.{added-length, added-bits, added_twice}
use Rattle.answer.proofs.Judges.{bits-within}
use Rattle.filter.specs.Filter.{tab}
use Rattle.filter.proofs.Tab.{tab_add, tab-at, tab-length, tab-same}
use Rattle.kreyvium.specs.Words.{bit, tops}
use Rattle.kreyvium.proofs.Bits.{bit_small, length-tops}
use Rattle.kreyvium.specs.Kreyvium.{stream_of}
use Rattle.kreyvium.proofs.Streams.{stream-length}
use Rattle.cipher.specs.Cipher.{keystream_of, encipher_of}
use Rattle.port.specs.Bytes.{value_at, packed, unpacked, BitList}
use Rattle.sequence.specs.Files.{start}
use Rattle.frames.specs.Frames.{frame_of, record_in, records_in}
use Rattle.frames.specs.Inner.{mark_bytes}
use Rattle.port.proofs.Digits.{digits_agree}
use Rattle.port.proofs.Parts.{part_after}

pub packed-length : (n : ℕ) (b : List ℕ) → length (packed n b) ≡ n
unfolding packed
packed-length n b = tab-length _ n

-- enciphering with Kreyvium, in the words of its keystream
pub kreyvium_of : (bits rec iv : List ℕ) → encipher_of 6 64 bits rec [] iv ≡ added rec (stream_of bits iv 64)
unfolding encipher_of keystream_of
kreyvium_of bits rec iv = refl

pub stream-size : (bits iv : List ℕ) → length (stream_of bits iv 64) ≡ 64
unfolding stream_of
stream-size bits iv = stream-length 64 _

-- a record enciphered has its length, and is bits
pub sealed-bits : (bits rec iv : List ℕ) → length rec ≡ 64 → BitList 64 (encipher_of 6 64 bits rec [] iv)
sealed-bits bits rec iv l =
    rw (kreyvium_of bits rec iv)
    record {
      size = added-length rec (stream_of bits iv 64) (omega (arith, stream-size bits iv)) ∙ l;
      bit = added-bits rec (stream_of bits iv 64);
    }

-- and enciphering it again gives it back
pub sealed-back : (bits rec iv : List ℕ) → BitList 64 rec → encipher_of 6 64 bits (encipher_of 6 64 bits rec [] iv) [] iv ≡ rec
sealed-back bits rec iv r =
    kreyvium_of bits _ iv
    ∙ ap (λ (x : List ℕ). added x (stream_of bits iv 64)) (kreyvium_of bits rec iv)
    ∙ added_twice rec (stream_of bits iv 64) (omega (arith, r.size, stream-size bits iv)) (λ i l. r.bit i)

-- ---- writing

packed-part : (b : List ℕ) (p : ℕ) → tab (λ k. value_at 2 b (p + 8 * k) 8) 8 ≡ packed 8 (take 64 (drop p b))
unfolding packed
packed-part b p =
    tab-same _ _ 8
    (λ k l. digits_agree 2 b (take 64 (drop p b)) (p + 8 * k) (8 * k) 8
    (λ i g. let e : p + 8 * k + i ≡ p + (8 * k + i) = omega arith in ap (λ (j : ℕ). get_or b j 0) e ∙ sym (get_or-take 64 (drop p b) (8 * k + i) 0 (omega arith) ∙ get_or-drop p b (8 * k + i) 0)))

-- 16 bytes of 128 bits
packed_halves : (b : List ℕ) → packed 16 b ≡ packed 8 (take 64 (drop 0 b)) ++ packed 8 (take 64 (drop 64 b))
unfolding packed
packed_halves b =
    halves ∙ ap₂ ◌++◌ (tab-same _ _ 8 (λ k l. ap (λ (j : ℕ). value_at 2 b j 8) (omega arith)) ∙ packed-part b 0) (tab-same _ _ 8 (λ k l. ap (λ (j : ℕ). value_at 2 b j 8) (omega arith)) ∙ packed-part b 64)
  where
    halves : packed 16 b ≡ tab (λ k. value_at 2 b (8 * k) 8) 8 ++ tab (λ k. value_at 2 b (8 * (8 + k)) 8) 8
    halves = tab_add _ 8 8

pub packed_words : (x y : ℕ) → packed 8 (tops 64 x) ++ packed 8 (tops 64 y) ≡ packed 16 (tops 64 x ++ tops 64 y)
packed_words x y =
    let a = tops 64 x in
    let b = tops 64 y in
    let first : take 64 (a ++ b) ≡ a = ap (λ (n : ℕ). take n (a ++ b)) (sym (length-tops 64 x)) ∙ take-append_seam a b in
    let second : drop 64 (a ++ b) ≡ b = ap (λ (n : ℕ). drop n (a ++ b)) (sym (length-tops 64 x)) ∙ drop-append_seam a b in
    ap₂ (λ (c d : List ℕ). packed 8 c ++ packed 8 d) (sym first) (sym (ap (take 64) second ∙ take_all 64 b (omega (arith, length-tops 64 y))))
    ∙ sym (packed_halves (a ++ b))

pub frame_written : (bits rec iv : List ℕ) {v : List ℕ} (x : ℕ) → length rec ≡ 64 → v ≡ iv → tops 64 x ≡ added (take 64 (drop 0 rec)) (stream_of bits v 64)
    → mark_bytes ++ packed 16 v ++ packed 8 (tops 64 x) ≡ frame_of bits rec iv
unfolding frame_of
frame_written bits rec iv x l e ex =
    let r : take 64 (drop 0 rec) ≡ rec = take_all 64 rec (omega arith) in
    rw (ex, e, r, ← kreyvium_of bits rec iv) refl

-- ---- reading

pub unpacked-length : (s : List ℕ) (p n : ℕ) → length (unpacked s p n) ≡ n
unfolding unpacked
unpacked-length s p n = tab-length _ n

pub unpacked_small : (s : List ℕ) (p n i : ℕ) → get_or (unpacked s p n) i 0 ≤ 1
unfolding unpacked
unpacked_small s p n =
    bits-within (unpacked s p n) (λ i l. rw (tab-at (λ i. bit (get_or s (p + i / 8) 0) (7 - i % 8)) n i (omega (arith, unpacked-length s p n))) (bit_small _ _))

-- 128 bits of 16 bytes
pub unpacked_halves : (s : List ℕ) (p : ℕ) → unpacked s p 128 ≡ unpacked s p 64 ++ unpacked s (p + 8) 64
unfolding unpacked
unpacked_halves s p =
    tab_add _ 64 64
    ∙ ap (λ (t : List ℕ). tab (λ i. bit (get_or s (p + i / 8) 0) (7 - i % 8)) 64 ++ t)
    (tab-same _ _ 64 (λ i l. ap₂ (λ (a b : ℕ). bit (get_or s a 0) (7 - b)) (omega arith) (omega arith)))

pub record_length : (bits s : List ℕ) (k : ℕ) → length (record_in bits s k) ≡ 64
unfolding record_in
record_length bits s k = (sealed-bits bits _ _ (unpacked-length s (start k + 18) 64)).size

pub records_length : (bits s : List ℕ) (n : ℕ) → length (records_in bits s n) ≡ 64 * n
unfolding records_in
records_length bits s zero = refl
records_length bits s (suc n) = length-append (records_in bits s n) (record_in bits s n) ∙ omega (arith, records_length bits s n, record_length bits s n)

-- the word of frame k with its keystream taken off
pub record_read : (bits s : List ℕ) (k : ℕ) {v : List ℕ} (c x : ℕ) → v ≡ unpacked s (start k + 2) 128 → tops 64 c ≡ unpacked s (start k + 18) 64
    → tops 64 x ≡ added (tops 64 c) (stream_of bits v 64) → tops 64 x ≡ record_in bits s k
unfolding record_in
record_read bits s k c x e ec ex =
    ex ∙ ap₂ (λ (a b : List ℕ). added a (stream_of bits b 64)) ec e ∙ sym (kreyvium_of bits _ _)

-- For a loop: no record yet, one more.
pub records_none : (bits s old : List ℕ) → old ≡ over (records_in bits s 0) old
unfolding records_in over
records_none bits s old = refl

pub records_more : (bits s old : List ℕ) (k x : ℕ) {out out' : List ℕ} → tops 64 x ≡ record_in bits s k → out ≡ over (records_in bits s k) old
    → out' ≡ take (64 * k) out ++ over (tops 64 x) (drop (64 * k) out) → out' ≡ over (records_in bits s (suc k)) old
unfolding records_in
records_more bits s old k x e o p =
    part_after (records_in bits s k) _ old (64 * k) (records_length bits s k) o p ∙ ap (λ (t : List ℕ). over (records_in bits s k ++ t) old) e
