-- What gives Done of emit_kreyvium, and what Done tells.
use Prim.Native.Nat.{ℕ, ◌≤◌}
use mathlib.Core.Path.{◌≡◌}
use mathlib.Core.List.{List}
use native.Mathlib.Omega.{arith}
use lib.ListN.{length}
use Rattle.std.specs.Prelude.{Ok}
use Rattle.answer.proofs.Rows.{both, first_done, then_done, one_of, two_of, three_of}
use Rattle.netlist.specs.Words.{words}
use Rattle.instance.specs.Wired.{Bits}
use Rattle.instance.proofs.Judged.{numbers_done}
use Rattle.answer.proofs.Judges.{length_done, room_done, done_length, done_room, bits_done, done_bits}
use Rattle.instance.proofs.Accepted.{done_numbers}
use Rattle.rounds.specs.Gates.{kreyvium_net}
use Rattle.register.specs.Judging.{iv_answer, emit_kreyvium_answer}

-- A record of 1 to 64 bits and an IV of 128 are accepted, with room for the netlist's words.
pub kreyvium_accepted : (m : ℕ) (iv : List ℕ) (room : ℕ) → 1 ≤ m → m ≤ 64 → Bits 128 iv → length (words (kreyvium_net iv m)) ≤ room
    → emit_kreyvium_answer m iv room ≡ Ok tt
unfolding emit_kreyvium_answer iv_answer
kreyvium_accepted m iv room some few v h =
    both (both (done_numbers 6 m (omega arith) (omega arith) some few) (both (done_length 1 _ _ v.size) (done_bits 1 iv v.bit)))
    (done_room 2 room _ h)

-- And nothing else is.
pub iv_done : (m : ℕ) (iv : List ℕ) → iv_answer m iv ≡ Ok tt → (1 ≤ m) × (m ≤ 64) × Bits 128 iv
unfolding iv_answer
iv_done m iv e =
    let n = (numbers_done 6 m (one_of _ _ _ e)).1 in
    (n.0, n.1, record { size = length_done 1 _ _ (two_of _ _ _ e); bit = bits_done 1 iv (three_of _ _ _ e) })

pub kreyvium_done : (m : ℕ) (iv : List ℕ) (room : ℕ) → emit_kreyvium_answer m iv room ≡ Ok tt
    → ((1 ≤ m) × (m ≤ 64) × Bits 128 iv) × (length (words (kreyvium_net iv m)) ≤ room)
unfolding emit_kreyvium_answer
kreyvium_done m iv room e = (iv_done m iv (first_done _ _ e), room_done 2 room _ (then_done _ _ e))
