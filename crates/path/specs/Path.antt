-- What the call of the whole path answers and leaves. Lists: key 1, record 2, indices 3, whitening or IV 4, scoring netlist 5;
-- enciphered record 6, deciphering netlist 7, glued netlist 8, inputs 9, wires 10, scores 11.
use Rattle.answer.specs.declared.Reason.TheVariants.{Fit, Gates}
use Rattle.std.specs.Prelude.{ℕ, ◌+◌, ◌≡◌, not, List, ◌++◌, length, ltb, eqb}
use Rattle.answer.specs.Answers.{Answer, ◌▹◌, refuse}
use Rattle.answer.specs.Fronts.{left}
use Rattle.netlist.specs.Net.{values, eval}
use Rattle.netlist.specs.Words.{inputs_of, gates_of, outputs_of, words, net_of}
use Rattle.netlist.specs.Check.{gate_limit, net_answer}
use Rattle.instance.specs.Table.{key_bits}
use Rattle.instance.specs.Keys.{key_in}
use Rattle.answer.specs.Judges.{room_answer}
use Rattle.judging.specs.Judging.{encipher_answer}
use Rattle.cipher.specs.Cipher.{encipher_of}
use Rattle.glue.specs.Glue.{glued_size, glued_words}
use Rattle.emit.specs.Emit.{decipher_net}
use Rattle.path.specs.declared.Rooms.{Rooms}

-- What is made on the way: the words of the deciphering netlist, the scoring netlist glued behind it, the enciphered record, and
-- the inputs of the glued netlist: the key's bits and the enciphered record.
abbrev pub decipher_words : ℕ → ℕ → List ℕ → List ℕ → List ℕ
decipher_words inst m idx wh = words (decipher_net inst m idx wh)

abbrev pub score_words : ℕ → ℕ → List ℕ → List ℕ → List ℕ → List ℕ
score_words inst m idx wh score = glued_words (decipher_words inst m idx wh) score

abbrev pub sealed : ℕ → ℕ → List ℕ → List ℕ → List ℕ → List ℕ → List ℕ
sealed inst m key rec idx wh = encipher_of inst m (key_in inst key) rec idx wh

abbrev pub score_inputs : ℕ → ℕ → List ℕ → List ℕ → List ℕ → List ℕ → List ℕ
score_inputs inst m key rec idx wh = key_in inst key ++ sealed inst m key rec idx wh

-- 8 on each result, where a is the deciphering netlist and b the scoring netlist
unfoldable pub rooms_answer : ℕ → ℕ → List ℕ → List ℕ → Rooms → Answer
rooms_answer inst m a b lent =
    room_answer 6 lent.enciphered m
    ▹ room_answer 7 lent.deciphering (length a)
    ▹ room_answer 8 lent.glued (glued_size a b)
    ▹ room_answer 9 lent.inputs (key_bits inst + m)
    ▹ room_answer 10 lent.wires (key_bits inst + m + (gates_of a + gates_of b))
    ▹ room_answer 11 lent.scores (outputs_of b)

-- 9 of the scoring netlist, which says how much room is needed; 8; 10 and 11
unfoldable pub results_answer : ℕ → ℕ → List ℕ → List ℕ → Rooms → Answer
results_answer inst m a b lent =
    net_answer 5 b
    ▹ rooms_answer inst m a b lent
    ▹ refuse Fit 0 0 (not (eqb m (inputs_of b)))
    ▹ refuse Gates 0 0 (ltb gate_limit (gates_of a + gates_of b))

-- 1 to 7, which are what enciphering answers where there is room for m bits; then these
unfoldable pub score_answer : ℕ → ℕ → List ℕ → List ℕ → List ℕ → List ℕ → List ℕ → Rooms → Answer
score_answer inst m key rec idx wh score lent =
    encipher_answer inst m key rec idx wh m ▹ results_answer inst m (decipher_words inst m idx wh) score lent

-- how many places the results have
abbrev pub rooms_of : List ℕ → List ℕ → List ℕ → List ℕ → List ℕ → List ℕ → Rooms
rooms_of enc net glued inp vals out = record {
  enciphered = length enc;
  deciphering = length net;
  glued = length glued;
  inputs = length inp;
  wires = length vals;
  scores = length out;
}

-- What a call answers, and what it leaves in each result: what is made on the way, and as scores the scoring netlist's
-- outputs on the plain record; on a refusal what was lent.
pub record Scored (inst m : ℕ) (key rec idx wh score enc net glued inp vals out : List ℕ) (r : Answer) (enc' net' glued' inp' vals' out' : List ℕ) : Type 0 where
  pub answered : r ≡ score_answer inst m key rec idx wh score (rooms_of enc net glued inp vals out)
  pub enciphers : enc' ≡ left r (sealed inst m key rec idx wh) enc
  pub emits : net' ≡ left r (decipher_words inst m idx wh) net
  pub glues : glued' ≡ left r (score_words inst m idx wh score) glued
  pub lends : inp' ≡ left r (score_inputs inst m key rec idx wh) inp
  pub evaluates : vals' ≡ left r (values (net_of (score_words inst m idx wh score)) (score_inputs inst m key rec idx wh)) vals
  pub scores : out' ≡ left r (eval (net_of score) rec) out
