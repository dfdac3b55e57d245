-- Instance 6 with no indices, its lists counted without them, is the call of Kreyvium.
use Prim.Native.Nat.{ℕ, ◌-◌}
use mathlib.Core.Path.{◌≡◌, refl, sym, ap, ap₂, ◌∙◌}
use mathlib.Core.Bool.{Bool, true, false}
use mathlib.Core.List.{List, []}
use native.Mathlib.Nat.{mul-zero}
use lib.Dec.{ltb}
use lib.ListN.{length}
use Rattle.std.specs.Prelude.{Err, Ok}
use Rattle.answer.specs.declared.Reason.{Reason}
use Rattle.answer.specs.declared.Reason.TheVariants.{Record, Length, Bit, Room}
use Rattle.answer.specs.Answers.{Answer, ◌▹◌, refuse}
use Rattle.answer.specs.Bits.{added, bits_answer}
use Rattle.answer.specs.Choose.{choose}
use Rattle.answer.specs.First.{first_from}
use Rattle.answer.specs.Fronts.{left}
use Rattle.instance.specs.Table.{sizes_of, white_bits}
use Rattle.instance.specs.Judging.{outside, numbers_answer, rows_answer, white_answer, wiring_lengths, wiring_rows}
use Rattle.instance.specs.Keys.{key_in, key_length_answer, key_bits_answer}
use Rattle.answer.specs.Judges.{length_answer, first_answer, room_answer}
use Rattle.kreyvium.specs.Kreyvium.{stream_of}
use Rattle.judging.specs.Judging.{encipher_answer}
use Rattle.cipher.specs.Cipher.{keystream_of, encipher_of, Ciphered}
use Rattle.daemon.specs.Daemon.{kreyvium_answer, Enciphered}
use Rattle.daemon.specs.Inner.{without_indices}

counted_row : (a b : Answer) → without_indices (a ▹ b) ≡ without_indices a ▹ without_indices b
unfolding without_indices ◌▹◌
counted_row (Ok _) b = refl
counted_row (Err r) b = refl

counted_refuse : (n : Reason) (l p : ℕ) (b : Bool) → without_indices (refuse n l p b) ≡ refuse n (choose (ltb 3 l) (l - 1) l) p b
unfolding without_indices refuse
counted_refuse n l p true = refl
counted_refuse n l p false = refl

-- a row of which both parts are counted
both : (a b : Answer) {c d : Answer} → without_indices a ≡ c → without_indices b ≡ d → without_indices (a ▹ b) ≡ c ▹ d
both a b e h = counted_row a b ∙ ap₂ ◌▹◌ e h

numbers_counted : (m : ℕ) → without_indices (numbers_answer 6 m) ≡ refuse Record 0 0 (outside 1 64 m)
unfolding numbers_answer ◌▹◌ refuse
numbers_counted m = counted_refuse Record 0 0 (outside 1 64 m)

-- no indices are as many as are wanted
no_indices : (m w : ℕ) → wiring_lengths 3 6 m 0 w ≡ length_answer 4 w 128
unfolding wiring_lengths length_answer sizes_of white_bits ◌▹◌ refuse
no_indices m w = rw (mul-zero m)

lengths_counted : (m k r w : ℕ)
    → without_indices (key_length_answer 1 6 k ▹ length_answer 2 r m ▹ wiring_lengths 3 6 m 0 w) ≡ key_length_answer 1 6 k ▹ length_answer 2 r m ▹ length_answer 3 w 128
unfolding key_length_answer length_answer
lengths_counted m k r w =
    both _ _ (counted_refuse Length 1 k _)
    (both _ _ (counted_refuse Length 2 r _) (ap without_indices (no_indices m w) ∙ counted_refuse Length 4 w _))

bits_counted : (key rec iv : List ℕ)
    → without_indices (key_bits_answer 1 6 key ▹ bits_answer 2 rec ▹ bits_answer 4 iv) ≡ key_bits_answer 1 6 key ▹ bits_answer 2 rec ▹ bits_answer 3 iv
unfolding key_bits_answer bits_answer first_answer
bits_counted key rec iv = both _ _ (counted_refuse Bit 1 _ _) (both _ _ (counted_refuse Bit 2 _ _) (counted_refuse Bit 4 _ _))

wiring_counted : (m n : ℕ) (iv : List ℕ) → without_indices (wiring_rows 3 6 [] iv ▹ room_answer 5 n m) ≡ room_answer 4 n m
unfolding wiring_rows rows_answer first_answer white_answer room_answer ◌▹◌ refuse first_from
wiring_counted m n iv = counted_refuse Room 5 n (ltb n m)

pub kreyvium_counted : (m : ℕ) (key rec iv : List ℕ) (n : ℕ) → without_indices (encipher_answer 6 m key rec [] iv n) ≡ kreyvium_answer m key rec iv n
unfolding encipher_answer kreyvium_answer
kreyvium_counted m key rec iv n =
    both _ _ (numbers_counted m)
    (both _ _ (lengths_counted m (length key) (length rec) (length iv)) (both _ _ (bits_counted key rec iv) (wiring_counted m n iv)))

-- the count of lists does not change what is left
left_counted : (a : Answer) (front old : List ℕ) → left a front old ≡ left (without_indices a) front old
unfolding left without_indices
left_counted (Ok _) front old = refl
left_counted (Err r) front old = refl

kreyvium_same : (m : ℕ) (key rec iv out : List ℕ)
    → left (encipher_answer 6 m key rec [] iv (length out)) (encipher_of 6 m (key_in 6 key) rec [] iv) out ≡ left (kreyvium_answer m key rec iv (length out)) (added rec (stream_of (key_in 6 key) iv m)) out
unfolding encipher_of keystream_of
kreyvium_same m key rec iv out =
    left_counted (encipher_answer 6 m key rec [] iv (length out)) _ out
    ∙ ap (λ (a : Answer). left a (added rec (stream_of (key_in 6 key) iv m)) out) (kreyvium_counted m key rec iv (length out))

pub kreyvium_left : (m : ℕ) (key rec iv out : List ℕ) {r : Answer} {out' : List ℕ} → Ciphered 6 m key rec [] iv out r out'
    → out' ≡ left (kreyvium_answer m key rec iv (length out)) (added rec (stream_of (key_in 6 key) iv m)) out
kreyvium_left m key rec iv out x =
    x.written
    ∙ ap (λ (a : Answer). left a (encipher_of 6 m (key_in 6 key) rec [] iv) out) x.answered
    ∙ kreyvium_same m key rec iv out

-- So what holds of the cipher call holds of this one: what it left is what that one leaves, and it is accepted where that one
-- is.
pub as_cipher : (m : ℕ) (key rec iv out : List ℕ) {r : ℕ} {out' : List ℕ} → Enciphered m key rec iv out r out'
    → Ciphered 6 m key rec [] iv out (encipher_answer 6 m key rec [] iv (length out)) out'
as_cipher m key rec iv out x = record { answered = refl; written = x.written ∙ sym (kreyvium_same m key rec iv out) }

pub cipher_accepted : (m : ℕ) (key rec iv : List ℕ) (n : ℕ) → encipher_answer 6 m key rec [] iv n ≡ Ok tt → kreyvium_answer m key rec iv n ≡ Ok tt
unfolding without_indices
cipher_accepted m key rec iv n e = sym (kreyvium_counted m key rec iv n) ∙ ap without_indices e
