-- What score answers, from what its judges do: 1 to 7 are those of enciphering, in the parts that the code has.
use Prim.Native.Nat.{ℕ, ◌+◌}
use mathlib.Core.Path.{◌≡◌, refl, sym, ap, ◌∙◌}
use mathlib.Core.Bool.{not}
use mathlib.Core.List.{List}
use native.Mathlib.Omega.{arith}
use lib.ListN.{length}
use lib.Dec.{ltb, eqb}
use Rattle.std.specs.Prelude.{Err, Ok}
use Rattle.std.specs.Result.{result_and}
use Rattle.answer.specs.declared.Reason.TheVariants.{Fit, Gates}
use Rattle.answer.specs.declared.Refusal.{Refusal}
use Rattle.answer.specs.Answers.{Answer, ◌▹◌, refuse}
use Rattle.answer.specs.Bits.{bits_answer}
use Rattle.answer.proofs.Rows.{first_done, then_done, both, pass, stop, stop_by}
use Rattle.netlist.specs.Words.{gate_place, inputs_of, gates_of, outputs_of}
use Rattle.netlist.specs.Check.{gate_limit, net_answer}
use Rattle.instance.specs.Table.{key_bits, row_bits}
use Rattle.instance.specs.Judging.{rows_answer, white_answer, wiring_lengths, wiring_rows}
use Rattle.instance.specs.Keys.{key_bits_answer}
use Rattle.answer.specs.Judges.{length_answer, room_answer}
use Rattle.answer.proofs.Judges.{length_done, done_length, done_room}
use Rattle.judging.specs.Judging.{encipher_answer}
use Rattle.emit.specs.Emit.{wiring_answer}
use Rattle.path.specs.declared.Rooms.{Rooms}
use Rattle.path.specs.Path.{decipher_words, rooms_answer, results_answer, score_answer}
use Rattle.path.specs.Inner.{renamed_to, sizes_answer}
use Rattle.path.proofs.Lists.{wiring_renamed, renamed_done}

-- rows of answers, however they are grouped
row-row : (a b c : Answer) → (a ▹ b) ▹ c ≡ a ▹ b ▹ c
unfolding ◌▹◌
row-row (Ok _) b c = refl
row-row (Err r) b c = refl

row_end : (a : Answer) {b : Answer} → b ≡ Ok tt → a ▹ b ≡ a
unfolding ◌▹◌
row_end (Ok _) e = e
row_end (Err r) e = refl

-- a length that is not refused as one list of a call is not refused as another
length_done_as : (l k a b : ℕ) → length_answer l a b ≡ Ok tt → length_answer k a b ≡ Ok tt
length_done_as l k a b e = done_length k a b (length_done l a b e)

module _ (inst m : ℕ) (key rec idx wh : List ℕ) where
  abbrev pub sizes : Answer
  sizes = sizes_answer inst m (length key) (length rec) (length idx) (length wh)

  abbrev pub bits : Answer
  bits = key_bits_answer 1 inst key ▹ bits_answer 2 rec

  -- 4 to 7 on the whitening or IV and the indices
  abbrev pub wiring : Answer
  wiring = bits_answer 4 wh ▹ wiring_rows 3 inst idx wh

  pub encipher_parts : encipher_answer inst m key rec idx wh m ≡ sizes ▹ bits ▹ wiring
  unfolding encipher_answer sizes_answer
  encipher_parts =
      let K = key_bits_answer 1 inst key in
      let R = wiring_rows 3 inst idx wh in
      let T = R ▹ room_answer 5 m m in
      let e : T ≡ R = row_end R (done_room 5 m m (omega arith)) in
      let f : (K ▹ bits_answer 2 rec ▹ bits_answer 4 wh) ▹ T ≡ bits ▹ wiring =
      row-row K _ T
      ∙ ap (λ (a : Answer). K ▹ a) (row-row (bits_answer 2 rec) (bits_answer 4 wh) T)
      ∙ sym (row-row K (bits_answer 2 rec) _)
      ∙ ap (λ (a : Answer). bits ▹ bits_answer 4 wh ▹ a) e in
      sym (row-row _ _ _) ∙ ap (λ (a : Answer). sizes ▹ a) f

  -- emission's judging of the wiring, whose lists 1 and 2 are 3 and 4 here
  pub wiring_is : sizes ≡ Ok tt → renamed_to 2 4 (renamed_to 1 3 (wiring_answer inst m idx wh)) ≡ wiring
  unfolding sizes_answer wiring_lengths wiring_rows wiring_answer
  wiring_is e =
      let l = then_done _ _ (then_done _ _ (then_done _ _ e)) in
      let w : wiring_answer inst m idx wh ≡ bits_answer 2 wh ▹ (rows_answer 1 (key_bits inst) (row_bits inst) idx ▹ white_answer 2 inst wh) =
      sym (pass (first_done _ _ e) (pass (both (length_done_as 3 1 _ _ (first_done _ _ l)) (length_done_as 4 2 _ _ (then_done _ _ l))) refl)) in
      ap (λ (a : Answer). renamed_to 2 4 (renamed_to 1 3 a)) w
      ∙ ap (renamed_to 2 4) (wiring_renamed 1 3 1 2 inst idx wh)
      ∙ wiring_renamed 2 4 3 2 inst idx wh

  pub wiring_accepted : sizes ≡ Ok tt → wiring ≡ Ok tt → wiring_answer inst m idx wh ≡ Ok tt
  wiring_accepted e h = renamed_done 1 3 _ (renamed_done 2 4 _ (wiring_is e ∙ h))

  -- The judges in a row.
  module _ (score : List ℕ) (lent : Rooms) where
    abbrev due : Answer
    due = score_answer inst m key rec idx wh score lent

    early : {r s : Answer} {e : Refusal} → s ≡ Err e → r ≡ sizes ▹ bits ▹ wiring → r ≡ Err e → s ≡ due
    unfolding score_answer
    early k e h = stop_by _ k (e ∙ sym encipher_parts) h

    pub refused_sizes : {r s : Answer} {e : Refusal} → s ≡ Err e → r ≡ sizes → r ≡ Err e → s ≡ due
    refused_sizes k e h = early k (stop _ e h) h

    pub refused_bits : {r s : Answer} {e : Refusal} → s ≡ Err e → sizes ≡ Ok tt → r ≡ bits → r ≡ Err e → s ≡ due
    refused_bits k d e h = early k (pass d (stop _ e h)) h

    pub refused_wiring : {s : Answer} {e : Refusal} → s ≡ Err e → sizes ≡ Ok tt → bits ≡ Ok tt → Err e ≡ wiring → s ≡ due
    refused_wiring k d b e = early k (pass d (pass b e)) refl

    pub judged : {r : Answer} → sizes ≡ Ok tt → bits ≡ Ok tt → wiring ≡ Ok tt → r ≡ results_answer inst m (decipher_words inst m idx wh) score lent → r ≡ due
    unfolding score_answer
    judged d b w e = pass (encipher_parts ∙ both d (both b w)) e

-- a row that the library's `and` makes
and_row : (a b : Answer) → result_and a b ≡ a ▹ b
unfolding ◌▹◌
and_row (Ok _) b = refl
and_row (Err r) b = refl

pub anded : {a b r s t : Answer} → t ≡ result_and r s → r ≡ a → s ≡ b → t ≡ a ▹ b
anded {a = a} {b = b} h e f = rw (h, e, f, and_row a b)

-- 9, 8, 10 and 11 from the netlists' counts
pub results_are : (inst m k gates words g o i : ℕ) (a b : List ℕ) (lent : Rooms)
    → k ≡ key_bits inst → gates ≡ gates_of a → words ≡ length a → g ≡ gates_of b → o ≡ outputs_of b → i ≡ inputs_of b
    → net_answer 5 b
    ▹ (room_answer 6 lent.enciphered m ▹ room_answer 7 lent.deciphering words ▹ room_answer 8 lent.glued (gate_place (gates + g) + o)
    ▹ room_answer 9 lent.inputs (k + m) ▹ room_answer 10 lent.wires (k + m + (gates + g)) ▹ room_answer 11 lent.scores o)
    ▹ (refuse Fit 0 0 (not (eqb m i)) ▹ refuse Gates 0 0 (ltb gate_limit (gates + g)))
    ≡ results_answer inst m a b lent
unfolding results_answer rooms_answer
results_are inst m k gates words g o i a b lent ek eg ew eh eo ei = rw (ek, eg, ew, eh, eo, ei)
