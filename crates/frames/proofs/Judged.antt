-- Laws for the code that judges what a call is lent.
use Prim.Native.Nat.{ℕ, suc, ◌+◌, ◌*◌, ◌-◌, ◌/◌, ◌%◌, ◌^◌, ◌<◌, ◌≤◌}
use mathlib.Core.Path.{◌≡◌, sym, ap, ap₂, ◌∙◌}
use mathlib.Core.Bool.{Bool, true, false, not}
use mathlib.Core.List.{List, ◌++◌}
use native.Mathlib.Decide.{dec_le}
use native.Mathlib.Omega.{arith}
use lib.ListN.{length, get_or, get_or-append}
use lib.Seq.{get_or-append-add}
use lib.Dec.{ltb}
use borrow.Author.Tests.{lt-ltb, le-ltb, eq-eqb, ne_eqb, not-false}
use Rattle.std.specs.Prelude.{Ok, ◌≢◌}
use Rattle.answer.specs.declared.Reason.TheVariants.{Order, Room}
use Rattle.answer.specs.Answers.{Answer, refused, refuse}
use Rattle.answer.specs.Bits.{bits_answer}
use Rattle.answer.proofs.Rows.{first_done, then_done, both, one_of, two_of, three_of, refuse_done, refuse_not, refuse_yes}
use Rattle.answer.specs.Judges.{length_answer, room_answer}
use Rattle.answer.proofs.Judges.{length_done, room_done, done_length, done_room, bits-within, bits_done, done_bits}
use Rattle.instance.specs.Keys.{Keyed}
use Rattle.instance.proofs.Keys.{keyed_length, keyed_bits, done_keyed}
use Rattle.kreyvium.specs.Words.{bit, tops}
use Rattle.kreyvium.proofs.Bits.{length-tops, tops-at}
use Rattle.port.specs.Bytes.{value_at, BitList}
use Rattle.port.proofs.Digits.{digits_split, digits_field, digits_packed}
use Rattle.sequence.specs.Files.{frame_size, start, frames_in, iv_number, file_answer}
use Rattle.sequence.proofs.Judged.{begins_within, file_begins}
use Rattle.frames.specs.Frames.{iv_value, above, new_answer, lengths_answer, three_bits_answer, end_answer, append_answer, last_answer, append_after_answer, frames_read_answer}
use Rattle.frames.specs.declared.iv.Iv.{Iv}
use Rattle.frames.specs.Inner.{iv_bits, iv_two, Whole}
use Rattle.frames.specs.Lent.{AppendLent}

-- ---- a file

-- there is nothing behind the last frame of a file that is done
pub file_whole : (l : ℕ) (s : List ℕ) → file_answer l s ≡ Ok tt → Whole (frames_in s) s
file_whole l s e =
    elim (dec_le (frames_in s) 0) [
      | yes h ↦ record { size = omega arith }
      | no h ↦ (let k = frames_in s - 1 in record { size = omega (arith, begins_within s (start k) (file_begins l s e k (omega arith))) })
    ]

-- the same where code has the answer
pub whole_if : (l : ℕ) {s : List ℕ} {r : Answer} {u : Unit {0}} → r ≡ file_answer l s → r ≡ Ok u → Whole (frames_in s) s
whole_if l {s} e h = file_whole l s (sym e ∙ h)

-- ---- a new frame

-- an IV of 128 bits is two words
two_number : (v : List ℕ) {x y : ℕ} → x ≡ value_at 2 v 0 64 → y ≡ value_at 2 v 64 64 → x * 2 ^ 64 + y ≡ iv_value v
unfolding iv_value
two_number v e f =
    ap₂ (λ (a b : ℕ). a * 2 ^ 64 + b) e f ∙ sym (digits_split 2 v 0 64 64) ∙ digits_packed 16 v 16 (omega arith)

-- so its number is that of its bits
iv_told : (v : Iv) → v.high < 2 ^ 64 → v.low < 2 ^ 64 → iv_two v ≡ iv_value (iv_bits v)
iv_told v h k =
    let a = tops 64 v.high in
    let b = tops 64 v.low in
    let n = length-tops 64 v.high in
    let first : value_at 2 (a ++ b) 0 64 ≡ v.high / 2 ^ 0 % 2 ^ 64 =
    digits_field (a ++ b) 0 64 v.high 0
    (λ i l. ap (λ (j : ℕ). get_or (a ++ b) j 0) (omega arith) ∙ get_or-append a b 0 i (omega arith) ∙ tops-at 64 v.high i l ∙ ap (bit v.high) (omega arith)) in
    let second : value_at 2 (a ++ b) 64 64 ≡ v.low / 2 ^ 0 % 2 ^ 64 =
    digits_field (a ++ b) 64 64 v.low 0
    (λ i l. ap (λ (j : ℕ). get_or (a ++ b) (j + i) 0) (sym n) ∙ get_or-append-add a b i 0 ∙ tops-at 64 v.low i l ∙ ap (bit v.low) (omega arith)) in
    two_number (a ++ b) (omega (arith, first)) (omega (arith, second))

pub new_first : (l : ℕ) (s iv : List ℕ) → length s ≡ 0 → Ok tt ≡ new_answer l s iv
unfolding new_answer above refuse
new_first l s iv e = rw e

module _ (l : ℕ) (s : List ℕ) (iv : Iv) (high : iv.high < 2 ^ 64) (low : iv.low < 2 ^ 64) (w : Whole (frames_in s) s) (n : length s ≢ 0) {x : ℕ} {b : Bool}
    (e : x ≡ iv_number s (length s / 26 - 1)) (h : b ≡ ltb x (iv_two iv)) where
  above_is : above s (frames_in s) (iv_bits iv) ≡ b
  unfolding above
  above_is =
      let k = length s / 26 - 1 in
      let z : frames_in s ≡ suc k = omega (arith, w.size) in
      ap (λ (j : ℕ). above s j (iv_bits iv)) z ∙ sym (ap₂ ltb e (iv_told iv high low)) ∙ sym h

  pub new_above : b ≡ true → Ok tt ≡ new_answer l s (iv_bits iv)
  unfolding new_answer
  new_above g = sym (refuse_not Order l (length s) (ap not (above_is ∙ g)))

  pub new_below : b ≡ false → refused Order l (length s) ≡ new_answer l s (iv_bits iv)
  unfolding new_answer
  new_below g = refuse_yes Order l (length s) (ap not (above_is ∙ g))

-- what a new frame that is done tells
pub new_done : (l : ℕ) (s iv : List ℕ) → new_answer l s iv ≡ Ok tt → above s (frames_in s) iv ≡ true
unfolding new_answer
new_done l s iv e = not-false _ (refuse_done Order l (length s) _ e)

-- ---- a last frame

pub last_none : (l n : ℕ) → n ≡ 0 → Ok tt ≡ last_answer l n
unfolding last_answer refuse
last_none l n e = rw (eq-eqb n 0 e)

pub last_some : (l n : ℕ) {r : Answer} → (n ≡ 0 → ⊥) → r ≡ length_answer l n frame_size → r ≡ last_answer l n
unfolding last_answer length_answer
last_some l n h e = rw (ne_eqb n 0 h) e

pub last_whole : (l n : ℕ) → n ≡ frame_size → Ok tt ≡ last_answer l n
unfolding last_answer refuse
last_whole l n e = rw e

-- ---- room

pub room_short : (room len : ℕ) → len % frame_size ≡ 0 → room / 64 < len / frame_size → refused Room 3 room ≡ room_answer 3 room (64 * ((len + 25) / frame_size))
unfolding room_answer
room_short room len m h = refuse_yes Room 3 room (lt-ltb room (64 * ((len + 25) / frame_size)) (omega arith))

pub room_enough : (room len : ℕ) → len % frame_size ≡ 0 → len / frame_size ≤ room / 64 → Ok tt ≡ room_answer 3 room (64 * ((len + 25) / frame_size))
unfolding room_answer
room_enough room len m h =
    sym (refuse_not Room 3 room (le-ltb room (64 * ((len + 25) / frame_size)) (omega arith)))

-- ---- what (Ok tt) tells of a call, and what makes one done

bit_list : (l n : ℕ) (s : List ℕ) → length_answer l (length s) n ≡ Ok tt → bits_answer l s ≡ Ok tt → BitList n s
bit_list l n s e f = record { size = length_done l (length s) n e; bit = bits-within s (bits_done l s f) }

length_good : (l n : ℕ) (s : List ℕ) → BitList n s → length_answer l (length s) n ≡ Ok tt
length_good l n s b = done_length l (length s) n b.size

bits_good : (l n : ℕ) (s : List ℕ) → BitList n s → bits_answer l s ≡ Ok tt
bits_good l n s b = done_bits l s (λ k h. b.bit k)

pub iv_lent : (key rec : List ℕ) {iv : List ℕ} {r t : Answer} {u v : Unit {0}} → r ≡ lengths_answer key rec iv → r ≡ Ok u → t ≡ three_bits_answer key rec iv → t ≡ Ok v → BitList 128 iv
unfolding lengths_answer three_bits_answer
iv_lent key rec {iv} e h f g = bit_list 3 128 iv (three_of _ _ _ (sym e ∙ h)) (three_of _ _ _ (sym f ∙ g))

lent-from : (key rec iv s : List ℕ) (n : ℕ) → lengths_answer key rec iv ≡ Ok tt → three_bits_answer key rec iv ≡ Ok tt → end_answer s iv n ≡ Ok tt → AppendLent key rec iv s n
unfolding lengths_answer three_bits_answer end_answer
lent-from key rec iv s n l b e =
    record {
      keyed = done_keyed 1 6 key (one_of _ _ _ l) (one_of _ _ _ b);
      record_bits = bit_list 2 64 rec (two_of _ _ _ l) (two_of _ _ _ b);
      iv_bits = bit_list 3 128 iv (three_of _ _ _ l) (three_of _ _ _ b);
      room = room_done 5 n frame_size (three_of _ _ _ e);
      file = one_of _ _ _ e;
      rise = two_of _ _ _ e;
    }

module _ (key rec iv s : List ℕ) (n : ℕ) where
  pub append-lent : append_answer key rec iv s n ≡ Ok tt → AppendLent key rec iv s n
  unfolding append_answer
  append-lent e = lent-from key rec iv s n (one_of _ _ _ e) (two_of _ _ _ e) (three_of _ _ _ e)

  pub append_after_lent : append_after_answer key rec iv s n ≡ Ok tt → AppendLent key rec iv s n
  unfolding append_after_answer
  append_after_lent e =
      lent-from key rec iv s n (first_done _ _ (one_of _ _ _ e)) (two_of _ _ _ e) (three_of _ _ _ e)

  pub append_after_last : append_after_answer key rec iv s n ≡ Ok tt → last_answer 4 (length s) ≡ Ok tt
  unfolding append_after_answer
  append_after_last e = then_done _ _ (one_of _ _ _ e)

  module _ (a : AppendLent key rec iv s n) where
    lengths_lent : lengths_answer key rec iv ≡ Ok tt
    unfolding lengths_answer
    lengths_lent =
        both (keyed_length 1 6 key a.keyed) (both (length_good 2 64 rec a.record_bits) (length_good 3 128 iv a.iv_bits))

    bits-lent : three_bits_answer key rec iv ≡ Ok tt
    unfolding three_bits_answer
    bits-lent =
        both (keyed_bits 1 6 key a.keyed) (both (bits_good 2 64 rec a.record_bits) (bits_good 3 128 iv a.iv_bits))

    end_lent : end_answer s iv n ≡ Ok tt
    unfolding end_answer
    end_lent = both a.file (both a.rise (done_room 5 n frame_size a.room))

    pub lent-append : append_answer key rec iv s n ≡ Ok tt
    unfolding append_answer
    lent-append = both lengths_lent (both bits-lent end_lent)

    pub lent-append_after : last_answer 4 (length s) ≡ Ok tt → append_after_answer key rec iv s n ≡ Ok tt
    unfolding append_after_answer
    lent-append_after e = both (both lengths_lent e) (both bits-lent end_lent)

-- a call that reads a file, with n places for its records
pub record ReadLent (key s : List ℕ) (n : ℕ) : Type 0 where
  pub keyed : Keyed 6 key
  pub file : file_answer 2 s ≡ Ok tt
  pub whole : Whole (frames_in s) s
  pub room : 64 * frames_in s ≤ n

pub read_lent : (key s : List ℕ) (n : ℕ) → frames_read_answer key s n ≡ Ok tt → ReadLent key s n
unfolding frames_read_answer
read_lent key s n e =
    let t = then_done _ _ e in
    record {
      keyed = done_keyed 1 6 key (first_done _ _ e) (one_of _ _ _ t);
      file = two_of _ _ _ t;
      whole = file_whole 2 s (two_of _ _ _ t);
      room = room_done 3 n (64 * frames_in s) (three_of _ _ _ t);
    }

pub lent_read : (key s : List ℕ) (n : ℕ) → ReadLent key s n → frames_read_answer key s n ≡ Ok tt
unfolding frames_read_answer
lent_read key s n a =
    both (keyed_length 1 6 key a.keyed) (both (keyed_bits 1 6 key a.keyed) (both a.file (done_room 3 n (64 * frames_in s) a.room)))
