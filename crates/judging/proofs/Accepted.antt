-- What gives done of a cipher call, and what done tells.
use Prim.Native.Nat.{ℕ, ◌≤◌}
use mathlib.Core.Path.{◌≡◌}
use mathlib.Core.List.{List}
use Rattle.std.specs.Prelude.{Ok}
use Rattle.answer.proofs.Rows.{both, first_done, then_done, one_of, two_of, three_of}
use Rattle.answer.proofs.Judges.{length_done, room_done, done_length, done_room, bits_done, done_bits}
use Rattle.instance.specs.Wired.{Wired, Bits}
use Rattle.instance.specs.Keys.{Keyed}
use Rattle.instance.proofs.Keys.{keyed_length, keyed_bits, done_keyed}
use Rattle.instance.proofs.Accepted.{wired_numbers, wired_lengths, wired_rows, done_wired}
use Rattle.judging.specs.Judging.{keystream_answer, encipher_answer}

-- What the rules let a caller lend is accepted, with room for the m bits.
pub keystream_accepted : (inst m : ℕ) (key idx wh : List ℕ) (n : ℕ) → Wired inst m idx wh → Keyed inst key → m ≤ n
    → keystream_answer inst m key idx wh n ≡ Ok tt
unfolding keystream_answer
keystream_accepted inst m key idx wh n w k h =
    both (wired_numbers inst m idx wh w)
    (both (both (keyed_length 1 inst key k) (wired_lengths inst m idx wh w 2))
    (both (both (keyed_bits 1 inst key k) (done_bits 3 wh w.white_bit))
    (both (wired_rows inst m idx wh w 2) (done_room 4 n m h))))

-- enciphering and deciphering
pub encipher_accepted : (inst m : ℕ) (key rec idx wh : List ℕ) (n : ℕ) → Wired inst m idx wh → Keyed inst key → Bits m rec → m ≤ n
    → encipher_answer inst m key rec idx wh n ≡ Ok tt
unfolding encipher_answer
encipher_accepted inst m key rec idx wh n w k r h =
    both (wired_numbers inst m idx wh w)
    (both (both (keyed_length 1 inst key k) (both (done_length 2 _ _ r.size) (wired_lengths inst m idx wh w 3)))
    (both (both (keyed_bits 1 inst key k) (both (done_bits 2 rec r.bit) (done_bits 4 wh w.white_bit)))
    (both (wired_rows inst m idx wh w 3) (done_room 5 n m h))))

-- And nothing else is.
pub keystream_wired : (inst m : ℕ) (key idx wh : List ℕ) (n : ℕ) → keystream_answer inst m key idx wh n ≡ Ok tt
    → Wired inst m idx wh × Keyed inst key × (m ≤ n)
unfolding keystream_answer
keystream_wired inst m key idx wh n e =
    let e1 = then_done _ _ e in
    let e2 = then_done _ _ e1 in
    let l = first_done _ _ e1 in
    let b = one_of _ _ _ e2 in (
      done_wired 2 inst m idx wh (first_done _ _ e) (then_done _ _ l) (then_done _ _ b) (two_of _ _ _ e2),
      done_keyed 1 inst key (first_done _ _ l) (first_done _ _ b),
      room_done 4 n m (three_of _ _ _ e2),
    )

pub encipher_wired : (inst m : ℕ) (key rec idx wh : List ℕ) (n : ℕ) → encipher_answer inst m key rec idx wh n ≡ Ok tt
    → Wired inst m idx wh × Keyed inst key × Bits m rec × (m ≤ n)
unfolding encipher_answer
encipher_wired inst m key rec idx wh n e =
    let e1 = then_done _ _ e in
    let e2 = then_done _ _ e1 in
    let l = first_done _ _ e1 in
    let b = one_of _ _ _ e2 in (
      done_wired 3 inst m idx wh (first_done _ _ e) (three_of _ _ _ l) (three_of _ _ _ b) (two_of _ _ _ e2),
      done_keyed 1 inst key (one_of _ _ _ l) (one_of _ _ _ b),
      record { size = length_done 2 _ _ (two_of _ _ _ l); bit = bits_done 2 rec (two_of _ _ _ b) },
      room_done 5 n m (three_of _ _ _ e2),
    )
