-- An answer in one number has room for every number and list that the two calls give, and can be taken apart again.
use Prim.Native.Nat.{ℕ, ◌/◌, ◌%◌, ◌<◌, ◌≤◌, min}
use mathlib.Core.Path.{◌≡◌, refl, ap, ◌∙◌}
use mathlib.Core.Bool.{Bool}
use mathlib.Core.List.{List}
use native.Mathlib.Omega.{arith}
use Rattle.std.specs.Prelude.{Ok}
use Rattle.answer.specs.declared.Reason.{Reason}
use Rattle.answer.specs.declared.Reason.TheVariants.{Record, Length, Bit, Room, Netlist, File}
use Rattle.answer.specs.Answers.{Answer, refused, reason_number, number_of, list_of, place_of, ◌▹◌, refuse}
use Rattle.answer.specs.Bits.{bits_answer}
use Rattle.answer.proofs.Every.{row_has, refuse_has}
use Rattle.answer.specs.Judges.{length_answer, first_answer, room_answer}
use Rattle.instance.specs.Keys.{key_length_answer, key_bits_answer}
use Rattle.records.specs.declared.form.Form.{Form}
use Rattle.records.specs.File.{check_answer}
use Rattle.file.proofs.Round.{check_has}
use Rattle.daemon.specs.Packed.{most_place, packed_of, capped_of, Packable}
use Rattle.daemon.specs.Daemon.{kreyvium_answer}

-- what the helpers of the header read off an answer
module _ (a : Answer) (s : Packable a) where
  pub number_told : packed_of a % 256 ≡ number_of a
  unfolding packed_of
  number_told = omega (arith, s.number, s.list)

  pub list_told : packed_of a / 256 % 256 ≡ list_of a
  unfolding packed_of
  list_told = omega (arith, s.number, s.list)

  pub place_told : packed_of a / 65536 ≡ min (place_of a) most_place
  unfolding packed_of
  place_told = omega (arith, s.number, s.list)

-- an answer that has room is given as it is
pub packed_capped : {a : Answer} → Packable a → capped_of a ≡ packed_of a
unfolding packed_of capped_of
packed_capped s = omega (arith, s.number, s.list)

-- the answer that was due in one number, where code packs the answer that it has
pub packed_due : {n : ℕ} {a due : Answer} → n ≡ capped_of a → a ≡ due → Packable due → n ≡ packed_of due
packed_due e h s = e ∙ ap capped_of h ∙ packed_capped s

-- the call of Kreyvium answers done, or 2 to 8 on lists 0 to 4: what these have, it has
module _ (P : Answer → Type 0) (done : P (Ok tt))
    (refused : (n : Reason) (l p : ℕ) → 2 ≤ reason_number n → reason_number n ≤ 8 → l ≤ 4 → P (refused n l p)) where
  one : (n : Reason) (l p : ℕ) (b : Bool) → 2 ≤ reason_number n → reason_number n ≤ 8 → l ≤ 4 → P (refuse n l p b)
  one n l p b g h k = refuse_has P done n l p b (refused n l p g h k)

  three : (n : Reason) (p q r : ℕ) (b c d : Bool) → 2 ≤ reason_number n → reason_number n ≤ 8 → P (refuse n 1 p b ▹ refuse n 2 q c ▹ refuse n 3 r d)
  three n p q r b c d g h =
      row_has P _ _ (one n 1 p b g h (omega arith))
      (row_has P _ _ (one n 2 q c g h (omega arith)) (one n 3 r d g h (omega arith)))

  pub kreyvium_has : (m : ℕ) (key rec iv : List ℕ) (n : ℕ) → P (kreyvium_answer m key rec iv n)
  unfolding kreyvium_answer key_length_answer key_bits_answer length_answer bits_answer first_answer room_answer
  kreyvium_has m key rec iv n =
      row_has P _ _ (one Record 0 0 _ (omega arith) (omega arith) (omega arith))
      (row_has P _ _ (three Length _ _ _ _ _ _ (omega arith) (omega arith))
      (row_has P _ _ (three Bit _ _ _ _ _ _ (omega arith) (omega arith)) (one Room 4 n _ (omega arith) (omega arith) (omega arith))))

-- number and list have room
pub small_done : Packable (Ok tt)
small_done = record { number = omega arith; list = omega arith }

pub small_refused : (n : Reason) (l p : ℕ) → reason_number n < 256 → l < 256 → Packable (refused n l p)
small_refused n l p h k = record { number = h; list = k }

pub kreyvium_small : (m : ℕ) (key rec iv : List ℕ) (n : ℕ) → Packable (kreyvium_answer m key rec iv n)
kreyvium_small = kreyvium_has Packable small_done (λ n l p g h k. small_refused n l p (omega arith) (omega arith))

pub check_small : (form : Form) (s : List ℕ) → Packable (check_answer form s)
check_small =
    check_has Packable small_done (λ p. small_refused Netlist 1 p (omega arith) (omega arith))
    (λ p. small_refused File 1 p (omega arith) (omega arith))

-- 0 is done, and it alone
pub done_zero : {a : Answer} → a ≡ Ok tt → packed_of a ≡ 0
unfolding packed_of
done_zero e = rw e

abbrev pub ZeroDone : Answer → Type 0
ZeroDone a = packed_of a ≡ 0 → a ≡ Ok tt

pub zero_done : ZeroDone (Ok tt)
zero_done e = refl

pub zero_refused : (n : Reason) (l p : ℕ) → 0 < reason_number n → ZeroDone (refused n l p)
unfolding packed_of
zero_refused n l p h e = absurd (omega arith)

pub kreyvium_zero : (m : ℕ) (key rec iv : List ℕ) (n : ℕ) → packed_of (kreyvium_answer m key rec iv n) ≡ 0 → kreyvium_answer m key rec iv n ≡ Ok tt
kreyvium_zero = kreyvium_has ZeroDone zero_done (λ n l p g h k. zero_refused n l p (omega arith))

pub check_zero : (form : Form) (s : List ℕ) → packed_of (check_answer form s) ≡ 0 → check_answer form s ≡ Ok tt
check_zero =
    check_has ZeroDone zero_done (λ p. zero_refused Netlist 1 p (omega arith)) (λ p. zero_refused File 1 p (omega arith))
