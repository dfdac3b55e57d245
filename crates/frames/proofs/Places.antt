-- What stands in a file with a frame put at its end.
use Prim.Native.Nat.{ℕ, zero, suc, ◌+◌, ◌*◌, ◌-◌, ◌/◌, ◌%◌, ◌<◌, ◌≤◌}
use mathlib.Core.Path.{◌≡◌, refl, sym, ap, ap₂, ◌∙◌}
use mathlib.Core.Bool.{true}
use mathlib.Core.Logic.{⊎_elim}
use mathlib.Core.List.{List, [], ◌∷◌, ◌++◌}
use native.Mathlib.Nat.{zero-add, eq-or-lt_of_le}
use native.Mathlib.Numerals.{add-one}
use native.Mathlib.Omega.{arith}
use lib.ListN.{length, get_or, length-append, get_or-append}
use lib.Seq.{ext_get_or, get_or-append-add}
use lib.Dec.{ltb}
use Rattle.std.specs.Prelude.{Ok}
use Rattle.answer.specs.Fronts.{over}
use Rattle.answer.proofs.Over.{over-at}
use Rattle.filter.proofs.Tab.{tab-at, tab-same}
use Rattle.kreyvium.specs.Words.{bit}
use Rattle.cipher.specs.Cipher.{encipher_of}
use Rattle.port.specs.Bytes.{value_at, packed, unpacked, BitList}
use Rattle.sequence.specs.Files.{byte_p, byte_t, frame_size, start, frames_in, frame_begins, iv_number, rises, file_answer}
use Rattle.sequence.proofs.Judged.{begins_marked, begins_there, frame_done, file_done, file_begins, file_rises}
use Rattle.frames.specs.Frames.{frame_of, iv_value, above, record_in, records_in, new_answer}
use Rattle.frames.specs.Inner.{Whole}
use Rattle.port.proofs.Digits.{Agree, digits_agree, binary_bit}
use Rattle.frames.proofs.Sealing.{packed-length, unpacked-length, sealed-bits, sealed-back}
use Rattle.frames.proofs.Judged.{new_done}

-- ---- lists that agree have the same bits there
pub unpacked_agree : (s t : List ℕ) (p q n : ℕ) → Agree s p t q n → unpacked s p (8 * n) ≡ unpacked t q (8 * n)
unfolding unpacked
unpacked_agree s t p q n h = tab-same _ _ (8 * n) (λ i l. ap (λ (x : ℕ). bit x (7 - i % 8)) (h (i / 8) (omega arith)))

-- bits packed and unpacked again
pub unpacked-packed : (n : ℕ) (b : List ℕ) → BitList (8 * n) b → unpacked (packed n b) 0 (8 * n) ≡ b
unfolding unpacked packed
unpacked-packed n b h =
    ext_get_or 0 (unpacked (packed n b) 0 (8 * n)) b (unpacked-length (packed n b) 0 (8 * n) ∙ sym h.size)
    (λ i l.
    let k : i < 8 * n = omega (arith, unpacked-length (packed n b) 0 (8 * n)) in
    let e : 8 * (i / 8) + i % 8 ≡ i = omega arith in
    tab-at _ (8 * n) i k
    ∙ ap (λ (x : ℕ). bit x (7 - i % 8)) (ap (λ (j : ℕ). get_or (packed n b) j 0) (zero-add (i / 8)) ∙ tab-at (λ j. value_at 2 b (8 * j) 8) n (i / 8) (omega arith))
    ∙ binary_bit b (8 * (i / 8)) 8 (i % 8) (λ j g. h.bit (8 * (i / 8) + j)) (omega arith)
    ∙ ap (λ (j : ℕ). get_or b j 0) e)

-- ---- a frame by itself
module _ (bits rec iv : List ℕ) where
  abbrev sealed : List ℕ
  sealed = encipher_of 6 64 bits rec [] iv

  pub frame_length : length (frame_of bits rec iv) ≡ frame_size
  unfolding frame_of
  frame_length =
      length-append (byte_p ∷ byte_t ∷ packed 16 iv) (packed 8 sealed) ∙ ap₂ (λ (a b : ℕ). suc (suc a) + b) (packed-length 16 iv) (packed-length 8 sealed)

  -- its IV, from byte 2 on
  iv-at : Agree (frame_of bits rec iv) 2 (packed 16 iv) 0 16
  unfolding frame_of
  iv-at i h =
      let l : 2 + i < length (byte_p ∷ byte_t ∷ packed 16 iv) = omega (arith, packed-length 16 iv) in
      get_or-append (byte_p ∷ byte_t ∷ packed 16 iv) (packed 8 sealed) 0 (2 + i) l
      ∙ get_or-append-add (byte_p ∷ byte_t ∷ []) (packed 16 iv) i 0
      ∙ ap (λ (j : ℕ). get_or (packed 16 iv) j 0) (sym (zero-add i))

  -- its record, from byte 18 on
  sealed-at : Agree (frame_of bits rec iv) 18 (packed 8 sealed) 0 8
  unfolding frame_of
  sealed-at i h =
      let e : 18 + i ≡ length (byte_p ∷ byte_t ∷ packed 16 iv) + i = omega (arith, packed-length 16 iv) in
      ap (λ (j : ℕ). get_or (frame_of bits rec iv) j 0) e ∙ get_or-append-add (byte_p ∷ byte_t ∷ packed 16 iv) (packed 8 sealed) i 0 ∙ ap (λ (j : ℕ). get_or (packed 8 sealed) j 0) (sym (zero-add i))

  -- so its bits are the IV's and the enciphered record's, also where something stands behind it
  module _ (old : List ℕ) where
    left_at : (m n : ℕ) → m + n ≤ frame_size → Agree (over (frame_of bits rec iv) old) m (frame_of bits rec iv) m n
    left_at m n g i h = over-at (frame_of bits rec iv) old (m + i) (omega (arith, frame_length))

    pub frame_iv : BitList 128 iv → unpacked (over (frame_of bits rec iv) old) 2 128 ≡ iv
    frame_iv v =
        unpacked_agree (over (frame_of bits rec iv) old) (packed 16 iv) 2 0 16 (λ i h. left_at 2 16 (omega arith) i h ∙ iv-at i h) ∙ unpacked-packed 16 iv v

    pub frame_sealed : length rec ≡ 64 → unpacked (over (frame_of bits rec iv) old) 18 64 ≡ sealed
    frame_sealed l =
        unpacked_agree (over (frame_of bits rec iv) old) (packed 8 sealed) 18 0 8 (λ i h. left_at 18 8 (omega arith) i h ∙ sealed-at i h)
        ∙ unpacked-packed 8 sealed (sealed-bits bits rec iv l)

-- ---- a file with a frame put at its end
module _ (s bits rec iv : List ℕ) (w : Whole (frames_in s) s) where
  abbrev more : List ℕ
  more = s ++ frame_of bits rec iv

  pub more-length : length more ≡ frame_size * (frames_in s + 1)
  more-length = length-append s (frame_of bits rec iv) ∙ omega (arith, w.size, frame_length bits rec iv)

  pub more_frames : frames_in more ≡ frames_in s + 1
  more_frames = omega (arith, more-length)

  -- what stands in the file before it
  module _ (k : ℕ) (h : k < frames_in s) where
    old_at : (m n : ℕ) → m + n ≤ frame_size → Agree more (start k + m) s (start k + m) n
    old_at m n g i l = get_or-append s (frame_of bits rec iv) 0 (start k + m + i) (omega (arith, w.size))

    pub old_iv : iv_number more k ≡ iv_number s k
    unfolding iv_number
    old_iv = digits_agree 256 more s (start k + 2) (start k + 2) 16 (old_at 2 16 (omega arith))

    pub old_record : record_in bits more k ≡ record_in bits s k
    unfolding record_in
    old_record =
        ap₂ (λ (r v : List ℕ). encipher_of 6 64 bits r [] v)
        (unpacked_agree more s (start k + 18) (start k + 18) 8 (old_at 18 8 (omega arith)))
        (unpacked_agree more s (start k + 2) (start k + 2) 16 (old_at 2 16 (omega arith)))

  -- and the frame itself
  new_at : (m n : ℕ) → Agree more (start (frames_in s) + m) (frame_of bits rec iv) m n
  new_at m n i l =
      let e : start (frames_in s) + m + i ≡ length s + (m + i) = omega (arith, w.size) in
      ap (λ (j : ℕ). get_or more j 0) e ∙ get_or-append-add s (frame_of bits rec iv) (m + i) 0

  pub new_iv : iv_number more (frames_in s) ≡ iv_value iv
  unfolding iv_number iv_value
  new_iv =
      digits_agree 256 more (packed 16 iv) (start (frames_in s) + 2) 0 16 (λ i l. new_at 2 16 i l ∙ iv-at bits rec iv i l)

  -- its record is what was enciphered
  pub new_record : BitList 64 rec → BitList 128 iv → record_in bits more (frames_in s) ≡ rec
  unfolding record_in
  new_record r v =
      let e = encipher_of 6 64 bits rec [] iv in
      ap₂ (λ (x y : List ℕ). encipher_of 6 64 bits x [] y)
      (unpacked_agree more (packed 8 e) (start (frames_in s) + 18) 0 8 (λ i l. new_at 18 8 i l ∙ sealed-at bits rec iv i l) ∙ unpacked-packed 8 e (sealed-bits bits rec iv r.size))
      (unpacked_agree more (packed 16 iv) (start (frames_in s) + 2) 0 16 (λ i l. new_at 2 16 i l ∙ iv-at bits rec iv i l) ∙ unpacked-packed 16 iv v)
      ∙ sealed-back bits rec iv r

  pub new_records : BitList 64 rec → BitList 128 iv → records_in bits more (frames_in more) ≡ records_in bits s (frames_in s) ++ rec
  unfolding records_in
  new_records r v =
      ap (records_in bits more) (more_frames ∙ add-one (frames_in s))
      ∙ ap₂ ◌++◌ (olds (frames_in s) (omega arith)) (new_record r v)
    where
      olds : (n : ℕ) → n ≤ frames_in s → records_in bits more n ≡ records_in bits s n
      olds zero h = refl
      olds (suc n) h = ap₂ ◌++◌ (olds n (omega arith)) (old_record n (omega arith))

  -- it is a file again, if its IV is above the last one's
  old_begins : (k : ℕ) → k < frames_in s → frame_begins s (start k) ≡ true → frame_begins more (start k) ≡ true
  old_begins k h e =
      let m = begins_marked s (start k) e in
      let f = frame_of bits rec iv in
      begins_there more (start k) (omega (arith, more-length))
      (get_or-append s f 0 (start k) (omega (arith, w.size)) ∙ m.0)
      (get_or-append s f 0 (start k + 1) (omega (arith, w.size)) ∙ m.1)

  new_begins : frame_begins more (start (frames_in s)) ≡ true
  unfolding frame_of
  new_begins =
      let p = start (frames_in s) in
      let e : p ≡ length s + 0 = omega (arith, w.size) in
      let g : p + 1 ≡ length s + 1 = omega (arith, w.size) in
      begins_there more p (omega (arith, more-length))
      (ap (λ (j : ℕ). get_or more j 0) e ∙ get_or-append-add s (frame_of bits rec iv) 0 0)
      (ap (λ (j : ℕ). get_or more j 0) g ∙ get_or-append-add s (frame_of bits rec iv) 1 0)

  old_rises : (k : ℕ) → k < frames_in s → rises more k ≡ rises s k
  unfolding rises
  old_rises zero h = refl
  old_rises (suc k) h = ap₂ ltb (old_iv k (omega arith)) (old_iv (suc k) h)

  new_rises : (n : ℕ) → frames_in s ≡ n → rises more n ≡ above s n iv
  unfolding rises above
  new_rises zero e = refl
  new_rises (suc k) e = ap₂ ltb (old_iv k (omega arith)) (ap (iv_number more) (sym e) ∙ new_iv)

  pub more_file : (l m : ℕ) → file_answer l s ≡ Ok tt → new_answer l s iv ≡ Ok tt → file_answer m more ≡ Ok tt
  more_file l m f n =
      file_done m more
      (λ k h.
      ⊎_elim
      (λ (e : k ≡ frames_in s). rw e (frame_done m more (frames_in s) new_begins (new_rises (frames_in s) refl ∙ new_done l s iv n)))
      (λ (g : k < frames_in s). frame_done m more k (old_begins k g (file_begins l s f k g)) (old_rises k g ∙ file_rises l s f k g))
      (eq-or-lt_of_le {n = k} {m = frames_in s} (omega (arith, more_frames))))
