-- What Done tells of a call, and what gives Done.
use Prim.Native.Nat.{ℕ}
use mathlib.Core.Path.{◌≡◌}
use mathlib.Core.List.{List}
use Rattle.std.specs.Prelude.{Ok}
use Rattle.answer.proofs.Rows.{first_done, then_done, both}
use Rattle.answer.proofs.Judges.{length_done, done_length, bits_done, done_bits, room_done, done_room}
use Rattle.netlist.proofs.Accepted.{done_sound, sound_done}
use Rattle.evaluate.specs.Evaluate.{evaluate_answer}
use Rattle.evaluate.specs.Ready.{Ready}

pub done_ready : (net inputs : List ℕ) (v o : ℕ) → evaluate_answer net inputs v o ≡ Ok tt → Ready net inputs v o
unfolding evaluate_answer
done_ready net inputs v o e =
    let e1 = then_done _ _ e in
    let e2 = then_done _ _ e1 in
    let e3 = then_done _ _ e2 in
    record {
      sound = done_sound 1 net (first_done _ _ e);
      count = length_done 2 _ _ (first_done _ _ e1);
      bits = bits_done 2 inputs (first_done _ _ e2);
      values = room_done 3 _ _ (first_done _ _ e3);
      outputs = room_done 4 _ _ (then_done _ _ e3);
    }

pub ready_done : (net inputs : List ℕ) (v o : ℕ) → Ready net inputs v o → evaluate_answer net inputs v o ≡ Ok tt
unfolding evaluate_answer
ready_done net inputs v o r =
    both (sound_done 1 net r.sound)
    (both (done_length 2 _ _ r.count)
    (both (done_bits 2 inputs r.bits) (both (done_room 3 _ _ r.values) (done_room 4 _ _ r.outputs))))
