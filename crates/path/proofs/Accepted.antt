-- What done tells of score.
use Prim.Native.Nat.{ℕ, ◌+◌, ◌≤◌}
use mathlib.Core.Path.{◌≡◌, ◌∙◌}
use mathlib.Core.List.{List}
use lib.ListN.{length}
use borrow.Author.Tests.{eqb-true, ltb-false, not-false}
use Rattle.std.specs.Prelude.{Ok}
use Rattle.answer.specs.declared.Reason.TheVariants as reason
use Rattle.answer.proofs.Rows.{first_done, then_done, refuse_done, one_of, two_of, three_of}
use Rattle.netlist.specs.Words.{inputs_of, gates_of, outputs_of}
use Rattle.netlist.specs.Check.{gate_limit}
use Rattle.netlist.specs.Sound.{Sound}
use Rattle.netlist.proofs.Accepted.{done_sound}
use Rattle.instance.specs.Table.{key_bits}
use Rattle.instance.specs.Wired.{Wired, Bits}
use Rattle.instance.specs.Keys.{Keyed}
use Rattle.answer.proofs.Judges.{room_done}
use Rattle.judging.specs.Judging.{encipher_answer}
use Rattle.judging.proofs.Accepted.{encipher_wired, encipher_accepted}
use Rattle.glue.specs.Glue.{glued_size, Fit}
use Rattle.emit.specs.Emit.{decipher_answer}
use Rattle.emit.proofs.Accepted.{decipher_accepted}
use Rattle.emit.proofs.Emission.{emitted_sound, emitted_outputs}
use Rattle.path.specs.declared.Rooms.{Rooms}
use Rattle.path.specs.Path.{decipher_words, rooms_answer, results_answer, score_answer}

-- The results have room: a is the deciphering netlist, b the scoring netlist.
pub record Spacious (inst m : ℕ) (a b : List ℕ) (lent : Rooms) : Type 0 where
  pub enciphered : m ≤ lent.enciphered
  pub deciphering : length a ≤ lent.deciphering
  pub glued : glued_size a b ≤ lent.glued
  pub inputs : key_bits inst + m ≤ lent.inputs
  pub wires : key_bits inst + m + (gates_of a + gates_of b) ≤ lent.wires
  pub scores : outputs_of b ≤ lent.scores

rooms_done : (inst m : ℕ) (a b : List ℕ) (lent : Rooms) → rooms_answer inst m a b lent ≡ Ok tt → Spacious inst m a b lent
unfolding rooms_answer
rooms_done inst m a b lent e =
    let e1 = then_done _ _ e in
    let e2 = then_done _ _ e1 in
    let e3 = then_done _ _ e2 in
    record {
      enciphered = room_done 6 _ _ (first_done _ _ e);
      deciphering = room_done 7 _ _ (first_done _ _ e1);
      glued = room_done 8 _ _ (first_done _ _ e2);
      inputs = room_done 9 _ _ (one_of _ _ _ e3);
      wires = room_done 10 _ _ (two_of _ _ _ e3);
      scores = room_done 11 _ _ (three_of _ _ _ e3);
    }

-- And the scoring netlist is sound and fits behind the deciphering netlist.
pub record Fitting (inst m : ℕ) (a b : List ℕ) (lent : Rooms) : Type 0 where
  pub sound : Sound b
  pub space : Spacious inst m a b lent
  pub fits : m ≡ inputs_of b
  pub few : gates_of a + gates_of b ≤ gate_limit

results_done : (inst m : ℕ) (a b : List ℕ) (lent : Rooms) → results_answer inst m a b lent ≡ Ok tt → Fitting inst m a b lent
unfolding results_answer
results_done inst m a b lent e =
    let r = then_done _ _ e in
    record {
      sound = done_sound 5 b (first_done _ _ e);
      space = rooms_done inst m a b lent (one_of _ _ _ r);
      fits = eqb-true _ _ (not-false _ (refuse_done reason.Fit 0 0 _ (two_of _ _ _ r)));
      few = ltb-false _ _ (refuse_done reason.Gates 0 0 _ (three_of _ _ _ r));
    }

module _ (inst m : ℕ) (key rec idx wh score : List ℕ) (lent : Rooms) (done : score_answer inst m key rec idx wh score lent ≡ Ok tt) where
  pub fitting : Fitting inst m (decipher_words inst m idx wh) score lent
  unfolding score_answer
  fitting = results_done inst m _ score lent (then_done _ _ done)

  -- what was lent is what the rules let a caller lend
  accepted : Wired inst m idx wh × Keyed inst key × Bits m rec × (m ≤ m)
  unfolding score_answer
  accepted = encipher_wired inst m key rec idx wh m (first_done _ _ done)

  pub wired : Wired inst m idx wh
  wired = accepted.0

  pub keyed : Keyed inst key
  keyed = accepted.1

  pub bits : Bits m rec
  bits = accepted.2

  -- No step refuses.
  pub encipher_done : encipher_answer inst m key rec idx wh lent.enciphered ≡ Ok tt
  encipher_done = encipher_accepted inst m key rec idx wh _ wired keyed bits fitting.space.enciphered

  pub emit_done : decipher_answer inst m idx wh lent.deciphering ≡ Ok tt
  emit_done = decipher_accepted inst m idx wh _ wired fitting.space.deciphering

  pub glue_fit : Fit (decipher_words inst m idx wh) score lent.glued
  glue_fit =
      record {
        first = emitted_sound inst m idx wh wired;
        second = fitting.sound;
        space = fitting.space.glued;
        fits = emitted_outputs inst m idx wh wired ∙ fitting.fits;
        few = fitting.few;
      }
