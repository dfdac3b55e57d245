-- Laws for the code that judges a file.
use Rattle.std.specs.Prelude.{Ok, Err}
use Rattle.answer.specs.declared.Refusal.{Refusal}
use Rattle.answer.specs.declared.Reason.TheVariants.{Frame, Order}
use Rattle.std.specs.Int.{w64, from_be_bytes}
use lib.Seq.{get_or-take, get_or-drop}
use Rattle.std.proofs.Common.{take, drop, ◌≡◌, ℕ, zero, suc, ◌+◌, ◌-◌, ◌*◌, ◌/◌, ◌^◌, ◌<◌, ◌≤◌, Bool, true, false, not, eqb, ltb, leb, List, length, get_or, sym, refl, ap, ◌∙◌, ap₂, mul-le-mul_right, suc-mul, arith, le-ltb, lt-ltb, eq-eqb, ne_eqb, eqb-true, le-leb, leb-true}
use native.Mathlib.Decide.{dec_le}
use borrow.Author.Tests.{lt-leb, eqb-false, not-false}
use Rattle.answer.specs.Answers.{Answer, refused, ◌▹◌, each}
use Rattle.answer.specs.Choose.{choose}
use Rattle.answer.proofs.Rows.{first_done, then_done, both, stop, stop_by, go, pass, refuse_done, refuse_not, refuse_yes, each_at, each_done}
use Rattle.port.specs.Bytes.{value_at}
use Rattle.port.proofs.Digits.{digits_split}
use Rattle.sequence.specs.Files.{byte_p, byte_t, frame_size, start, frames_in, frame_begins, iv_word_at, iv_number, rises, frame_answer, file_answer}

-- ---- the mark of a frame

chosen : (b x : Bool) → choose b x false ≡ true → (b ≡ true) × (x ≡ true)
chosen true x e = (refl, e)
chosen false x e = (e, cc)

both_bytes : (a b : ℕ) → a < 256 → b < 256 → eqb (a + b * 256) 21584 ≡ choose (eqb a byte_p) (eqb b byte_t) false
both_bytes a b h g = by (eqb a byte_p) (eqb b byte_t) refl refl
  where
    by : (x y : Bool) → eqb a byte_p ≡ x → eqb b byte_t ≡ y → eqb (a + b * 256) 21584 ≡ choose x y false
    by true true e f = eq-eqb (a + b * 256) 21584 (omega (arith, eqb-true a byte_p e, eqb-true b byte_t f))
    by true false e f = ne_eqb (a + b * 256) 21584 (λ q. eqb-false b byte_t f (omega arith))
    by false y e f = ne_eqb (a + b * 256) 21584 (λ q. eqb-false a byte_p e (omega arith))

module _ (s : List ℕ) (p : ℕ) where
  pub begins_cut : length s < p + frame_size → frame_begins s p ≡ false
  unfolding frame_begins
  begins_cut h = rw (lt-leb (p + frame_size) (length s) h)

  begins_by : p + frame_size ≤ length s → frame_begins s p ≡ choose (eqb (get_or s p 0) byte_p) (eqb (get_or s (p + 1) 0) byte_t) false
  unfolding frame_begins
  begins_by h = rw (le-leb (p + frame_size) (length s) h)

  -- the two bytes of the mark as one number
  pub begins_mark : p + frame_size ≤ length s → get_or s p 0 < 256 → get_or s (p + 1) 0 < 256 → eqb (get_or s p 0 + get_or s (p + 1) 0 * 256) 21584 ≡ frame_begins s p
  begins_mark h a b = both_bytes (get_or s p 0) (get_or s (p + 1) 0) a b ∙ sym (begins_by h)

  -- and whatever answers as that comparison does
  pub begins_number : {b : Bool} → p + frame_size ≤ length s → get_or s p 0 < 256 → get_or s (p + 1) 0 < 256 → b ≡ eqb (get_or s p 0 + get_or s (p + 1) 0 * 256) 21584 → b ≡ frame_begins s p
  begins_number h a b e = e ∙ begins_mark h a b

  pub begins_within : frame_begins s p ≡ true → p + frame_size ≤ length s
  unfolding frame_begins
  begins_within e = leb-true (p + frame_size) (length s) (chosen _ _ e).0

  pub begins_marked : frame_begins s p ≡ true → (get_or s p 0 ≡ byte_p) × (get_or s (p + 1) 0 ≡ byte_t)
  unfolding frame_begins
  begins_marked e =
      let m = chosen (eqb (get_or s p 0) byte_p) (eqb (get_or s (p + 1) 0) byte_t) (chosen (leb (p + frame_size) (length s)) _ e).1 in
      (eqb-true (get_or s p 0) byte_p m.0, eqb-true (get_or s (p + 1) 0) byte_t m.1)

  pub begins_there : p + frame_size ≤ length s → get_or s p 0 ≡ byte_p → get_or s (p + 1) 0 ≡ byte_t → frame_begins s p ≡ true
  begins_there h e f = begins_by h ∙ rw (e, f)

-- ---- a word of eight bytes

-- For code that reads them as a part.
pub read_eight : (s : List ℕ) (p : ℕ) {t : List ℕ} {x : ℕ} → t ≡ take (p + 8 - p) (drop p s) → x ≡ from_be_bytes w64 t → x ≡ value_at 256 s p 8
unfolding value_at
read_eight s p {t} {x} e f =
    let size : p + 8 - p ≡ 8 = omega arith in
    let g : t ≡ take 8 (drop p s) = rw size at e in
    let at : (i : ℕ) → i < 8 → get_or t i 0 ≡ get_or s (p + i) 0 = λ i h. rw g (get_or-take 8 (drop p s) i 0 h ∙ get_or-drop p s i 0) in
    omega (arith, f, at 0 (omega arith), at 1 (omega arith), at 2 (omega arith), at 3 (omega arith), at 4 (omega arith), at 5 (omega arith), at 6 (omega arith), at 7 (omega arith))

module _ (s : List ℕ) (p : ℕ) where
  pub word_none : length s < p + 8 → 0 ≡ iv_word_at s p
  unfolding iv_word_at
  word_none h = rw (lt-leb (p + 8) (length s) h)

  -- where there are eight bytes
  pub word_there : p + 8 ≤ length s → iv_word_at s p ≡ value_at 256 s p 8
  unfolding iv_word_at
  word_there h = rw (le-leb (p + 8) (length s) h)

-- ---- IVs as numbers

-- two numbers of two words are compared by their high words, and by the low ones where those are equal
pub high_decides : (M a b v w : ℕ) → b < M → w < M → (a ≡ v → ⊥) → ltb a v ≡ ltb (a * M + b) (v * M + w)
high_decides M a b v w h g n =
    elim (dec_le (suc a) v) [ yes l ↦ lt-ltb a v l ∙ sym (lt-ltb _ _ (less a b v w h l)) | no l ↦ le-ltb a v (omega arith) ∙ sym (le-ltb _ _ (least (less v w a b g (omega arith)))) ]
  where
    less : (a b v w : ℕ) → b < M → a < v → a * M + b < v * M + w
    less a b v w h l = let k : suc a * M ≤ v * M = mul-le-mul_right M l in omega (arith, suc-mul a M)

    least : {x y : ℕ} → x < y → x ≤ y
    least l = omega arith

pub low_decides : (M a b v w : ℕ) → a ≡ v → ltb b w ≡ ltb (a * M + b) (v * M + w)
low_decides M a b v w e =
    elim (dec_le (suc b) w) [ yes l ↦ lt-ltb b w l ∙ sym (lt-ltb (a * M + b) (v * M + w) (rw e (more (v * M) b w l))) | no l ↦ le-ltb b w (omega arith) ∙ sym (le-ltb (a * M + b) (v * M + w) (rw e (most (v * M) w b (omega arith)))) ]
  where
    more : (x b w : ℕ) → b < w → x + b < x + w
    more x b w l = omega arith

    most : (x b w : ℕ) → b ≤ w → x + b ≤ x + w
    most x b w l = omega arith

-- the IV of the frame at p is two words
iv_words : (s : List ℕ) (p : ℕ) → value_at 256 s (p + 2) 16 ≡ value_at 256 s (p + 2) 8 * 2 ^ 64 + value_at 256 s (p + 10) 8
iv_words s p =
    let e : p + 2 + 8 ≡ p + 10 = omega arith in
    digits_split 256 s (p + 2) 8 8 ∙ ap (λ (q : ℕ). value_at 256 s (p + 2) 8 * 2 ^ 64 + value_at 256 s q 8) e

-- ---- a frame

-- the IV of frame k, read as two words
pub iv_read : (s : List ℕ) (k : ℕ) {v w : ℕ} → v ≡ value_at 256 s (start k + 2) 8 → w ≡ value_at 256 s (start k + 10) 8 → v * 2 ^ 64 + w ≡ iv_number s k
unfolding iv_number
iv_read s k e f = ap₂ (λ (c d : ℕ). c * 2 ^ 64 + d) e f ∙ sym (iv_words s (start k))

-- For code that judges frame k: whether its mark stands there, and whether its IV is above the one before.
module _ (l : ℕ) (s : List ℕ) (k : ℕ) {b : Bool} (e : b ≡ frame_begins s (start k)) where
  pub frame_bad : not b ≡ true → refused Frame l (start k) ≡ frame_answer l s k
  unfolding frame_answer
  frame_bad h = stop _ (refuse_yes Frame l (start k) (sym (ap not e) ∙ h)) refl

  module _ (h : not b ≡ false) {c : Bool} (f : c ≡ rises s k) where
    pub frame_low : not c ≡ true → refused Order l (start k) ≡ frame_answer l s k
    unfolding frame_answer
    frame_low g =
        pass (refuse_not Frame l (start k) (sym (ap not e) ∙ h)) (refuse_yes Order l (start k) (sym (ap not f) ∙ g))

    pub frame_good : not c ≡ false → Ok tt ≡ frame_answer l s k
    unfolding frame_answer
    frame_good g =
        pass (refuse_not Frame l (start k) (sym (ap not e) ∙ h)) (sym (refuse_not Order l (start k) (sym (ap not f) ∙ g)))

-- compared with the one before, which is carried along
pub rises_carried : (s : List ℕ) (k : ℕ) {x y : ℕ} {r : Bool} → 1 ≤ k → x ≡ iv_number s (k - 1) → y ≡ iv_number s k → r ≡ ltb x y → r ≡ rises s k
unfolding rises
rises_carried s zero h e f g = absurd (omega arith)
rises_carried s (suc k) h e f g =
    let q : suc k - 1 ≡ k = omega arith in
    g ∙ ap₂ ltb (e ∙ ap (iv_number s) q) f

-- what a frame that is done tells
module _ (l : ℕ) (s : List ℕ) (k : ℕ) (e : frame_answer l s k ≡ Ok tt) where
  pub frame_begins_lem : frame_begins s (start k) ≡ true
  unfolding frame_answer
  frame_begins_lem = not-false _ (refuse_done Frame l (start k) _ (first_done _ _ e))

  pub frame_rises : rises s k ≡ true
  unfolding frame_answer
  frame_rises = not-false _ (refuse_done Order l (start k) _ (then_done _ _ e))

pub frame_done : (l : ℕ) (s : List ℕ) (k : ℕ) → frame_begins s (start k) ≡ true → rises s k ≡ true → frame_answer l s k ≡ Ok tt
unfolding frame_answer
frame_done l s k e f = both (refuse_not Frame l (start k) (ap not e)) (refuse_not Order l (start k) (ap not f))

-- ---- a file

-- the first frame
pub first_good : (l : ℕ) (s : List ℕ) {b : Bool} → b ≡ frame_begins s 0 → not b ≡ false → Ok tt ≡ frame_answer l s 0
unfolding rises
first_good l s e h = frame_good l s 0 e h refl refl

-- behind the whole frames, a frame that is cut, or nothing
module _ (l : ℕ) (s : List ℕ) (n : ℕ) (q : n ≡ length s / frame_size) {r : Answer} (e : r ≡ each n (frame_answer l s)) where
  none_left : length s ≤ start n → file_answer l s ≡ r
  unfolding file_answer
  none_left g =
      let k : frames_in s ≡ n = omega arith in
      ap (λ (i : ℕ). each i (frame_answer l s)) k ∙ sym e

  one_left : start n < length s → file_answer l s ≡ r ▹ frame_answer l s n
  unfolding file_answer each
  one_left g =
      let k : frames_in s ≡ suc n = omega arith in
      ap (λ (i : ℕ). each i (frame_answer l s)) k ∙ ap (λ (a : Answer). a ▹ frame_answer l s n) (sym e)

  pub file_stop : {t : Answer} {x : Refusal} → t ≡ Err x → r ≡ Err x → t ≡ file_answer l s
  file_stop k h =
      elim (dec_le (length s) (start n)) [
        | yes g ↦ k ∙ sym h ∙ sym (none_left g)
        | no g ↦ stop_by (frame_answer l s n) k refl h ∙ sym (one_left (omega arith))
      ]

  module _ (h : r ≡ Ok tt) where
    pub file_cut : start n < length s → refused Frame l (start n) ≡ file_answer l s
    file_cut g = go refl h (frame_bad l s n (sym (begins_cut s (start n) (omega arith))) refl) ∙ sym (one_left g)

    pub file_end : length s ≤ start n → Ok tt ≡ file_answer l s
    file_end g = sym (none_left g ∙ h)

-- what a file that is done tells: each frame is there, with its mark, and rises; and there is nothing behind the last
module _ (l : ℕ) (s : List ℕ) (e : file_answer l s ≡ Ok tt) where
  pub file_frame : (k : ℕ) → k < frames_in s → frame_answer l s k ≡ Ok tt
  unfolding file_answer
  file_frame k h = each_at (frames_in s) (frame_answer l s) e k h

  pub file_begins : (k : ℕ) → k < frames_in s → frame_begins s (start k) ≡ true
  file_begins k h = frame_begins_lem l s k (file_frame k h)

  pub file_rises : (k : ℕ) → k < frames_in s → rises s k ≡ true
  file_rises k h = frame_rises l s k (file_frame k h)

pub file_done : (l : ℕ) (s : List ℕ) → ((k : ℕ) → k < frames_in s → frame_answer l s k ≡ Ok tt) → file_answer l s ≡ Ok tt
unfolding file_answer
file_done l s h = each_done (frames_in s) (frame_answer l s) h
