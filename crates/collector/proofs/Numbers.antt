-- The answers of the four calls have room in one number, and 0 is done alone.
use Prim.Native.Nat.{ℕ, ◌≤◌}
use mathlib.Core.Path.{◌≡◌, ap, ◌∙◌}
use mathlib.Core.Bool.{Bool}
use mathlib.Core.List.{List}
use native.Mathlib.Omega.{arith}
use Rattle.std.specs.Prelude.{Ok}
use Rattle.answer.specs.declared.Reason.{Reason}
use Rattle.answer.specs.declared.Reason.TheVariants.{Length, Bit, Room, Frame, Order}
use Rattle.answer.specs.Answers.{Answer, refused, reason_number, ◌▹◌, refuse}
use Rattle.answer.specs.Bits.{bits_answer}
use Rattle.answer.specs.Fronts.{left}
use Rattle.answer.proofs.Every.{row_has, refuse_has, each_has}
use Rattle.answer.specs.Judges.{length_answer, first_answer, room_answer}
use Rattle.instance.specs.Keys.{key_length_answer, key_bits_answer}
use Rattle.daemon.specs.Packed.{Packable}
use Rattle.daemon.proofs.Numbers.{small_done, small_refused, ZeroDone, zero_done, zero_refused}
use Rattle.sequence.specs.Files.{frames_in, frame_answer, file_answer}
use Rattle.frames.specs.Frames.{new_answer, lengths_answer, three_bits_answer, end_answer, append_answer, last_answer, append_after_answer, frames_read_answer}

-- what a call left by an answer, in the words of the answer that was due
pub left_by : {r due : Answer} (front old : List ℕ) {out : List ℕ} → r ≡ due → out ≡ left r front old → out ≡ left due front old
left_by front old e h = h ∙ ap (λ (a : Answer). left a front old) e

-- refusals as these calls give them
small : (n : Reason) (l p : ℕ) → 3 ≤ reason_number n → reason_number n ≤ 16 → l ≤ 5 → Packable (refused n l p)
small n l p g h k = small_refused n l p (omega arith) (omega arith)

zero : (n : Reason) (l p : ℕ) → 3 ≤ reason_number n → reason_number n ≤ 16 → l ≤ 5 → ZeroDone (refused n l p)
zero n l p g h k = zero_refused n l p (omega arith)

-- each answer is done, or 3 to 16 on lists 1 to 5: what these have, it has
module _ (P : Answer → Type 0) (done : P (Ok tt))
    (refused : (n : Reason) (l p : ℕ) → 3 ≤ reason_number n → reason_number n ≤ 16 → l ≤ 5 → P (refused n l p)) where
  one : (n : Reason) (l p : ℕ) (b : Bool) → 3 ≤ reason_number n → reason_number n ≤ 16 → l ≤ 5 → P (refuse n l p b)
  one n l p b g h k = refuse_has P done n l p b (refused n l p g h k)

  three : (n : Reason) (p q r : ℕ) (b c d : Bool) → 3 ≤ reason_number n → reason_number n ≤ 16 → P (refuse n 1 p b ▹ refuse n 2 q c ▹ refuse n 3 r d)
  three n p q r b c d g h =
      row_has P _ _ (one n 1 p b g h (omega arith)) (row_has P _ _ (one n 2 q c g h (omega arith)) (one n 3 r d g h (omega arith)))

  pub file_has : (l : ℕ) (s : List ℕ) → l ≤ 5 → P (file_answer l s)
  unfolding file_answer frame_answer
  file_has l s h =
      each_has P done (frames_in s) (frame_answer l s) (λ k. row_has P _ _ (one Frame l _ _ (omega arith) (omega arith) h) (one Order l _ _ (omega arith) (omega arith) h))

  lengths_has : (key rec iv : List ℕ) → P (lengths_answer key rec iv)
  unfolding lengths_answer key_length_answer length_answer
  lengths_has key rec iv = three Length _ _ _ _ _ _ (omega arith) (omega arith)

  bits_has : (key rec iv : List ℕ) → P (three_bits_answer key rec iv)
  unfolding three_bits_answer key_bits_answer bits_answer first_answer
  bits_has key rec iv = three Bit _ _ _ _ _ _ (omega arith) (omega arith)

  end_has : (s iv : List ℕ) (n : ℕ) → P (end_answer s iv n)
  unfolding end_answer new_answer room_answer
  end_has s iv n =
      row_has P _ _ (file_has 4 s (omega arith))
      (row_has P _ _ (one Order 4 _ _ (omega arith) (omega arith) (omega arith)) (one Room 5 n _ (omega arith) (omega arith) (omega arith)))

  pub append_has : (key rec iv s : List ℕ) (n : ℕ) → P (append_answer key rec iv s n)
  unfolding append_answer
  append_has key rec iv s n = row_has P _ _ (lengths_has key rec iv) (row_has P _ _ (bits_has key rec iv) (end_has s iv n))

  pub append_after_has : (key rec iv last : List ℕ) (n : ℕ) → P (append_after_answer key rec iv last n)
  unfolding append_after_answer last_answer
  append_after_has key rec iv last n =
      row_has P _ _ (row_has P _ _ (lengths_has key rec iv) (one Length 4 _ _ (omega arith) (omega arith) (omega arith)))
      (row_has P _ _ (bits_has key rec iv) (end_has last iv n))

  pub read_has : (key s : List ℕ) (n : ℕ) → P (frames_read_answer key s n)
  unfolding frames_read_answer key_length_answer key_bits_answer length_answer bits_answer first_answer room_answer
  read_has key s n =
      row_has P _ _ (one Length 1 _ _ (omega arith) (omega arith) (omega arith))
      (row_has P _ _ (one Bit 1 _ _ (omega arith) (omega arith) (omega arith))
      (row_has P _ _ (file_has 2 s (omega arith)) (one Room 3 n _ (omega arith) (omega arith) (omega arith))))

-- number and list have room
pub append_small : (key rec iv s : List ℕ) (n : ℕ) → Packable (append_answer key rec iv s n)
append_small = append_has Packable small_done small

pub append_after_small : (key rec iv last : List ℕ) (n : ℕ) → Packable (append_after_answer key rec iv last n)
append_after_small = append_after_has Packable small_done small

pub read_small : (key s : List ℕ) (n : ℕ) → Packable (frames_read_answer key s n)
read_small = read_has Packable small_done small

pub check_small : (s : List ℕ) → Packable (file_answer 1 s)
check_small s = file_has Packable small_done small 1 s (omega arith)

-- 0 is done, and it alone
pub append_zero : (key rec iv s : List ℕ) (n : ℕ) → ZeroDone (append_answer key rec iv s n)
append_zero = append_has ZeroDone zero_done zero

pub append_after_zero : (key rec iv last : List ℕ) (n : ℕ) → ZeroDone (append_after_answer key rec iv last n)
append_after_zero = append_after_has ZeroDone zero_done zero

pub read_zero : (key s : List ℕ) (n : ℕ) → ZeroDone (frames_read_answer key s n)
read_zero = read_has ZeroDone zero_done zero

pub check_zero : (s : List ℕ) → ZeroDone (file_answer 1 s)
check_zero s = file_has ZeroDone zero_done zero 1 s (omega arith)
