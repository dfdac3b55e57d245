-- Gluing two netlists. Lists: 1 the first, 2 the second, 3 the result.
use Rattle.answer.specs.declared.Reason.TheVariants as reason
use Rattle.std.specs.Prelude.{ℕ, ◌+◌, ◌≤◌, ◌≡◌, not, List, length, ltb, eqb}
use Rattle.answer.specs.Answers.{Answer, ◌▹◌, refuse}
use Rattle.answer.specs.Fronts.{left}
use Rattle.answer.specs.Judges.{room_answer}
use Rattle.netlist.specs.declared.counts.Counts.{Counts}
use Rattle.netlist.specs.Words.{gate_place, counts_of, inputs_of, gates_of, outputs_of, word_count, words, net_of}
use Rattle.netlist.specs.Glue.{glue}
use Rattle.netlist.specs.Check.{gate_limit, net_answer}
use Rattle.netlist.specs.Sound.{Sound}

-- the glued netlist's counts, and how many words it has, where the two fit or not
abbrev pub glued_counts : Counts → Counts → Counts
glued_counts a b = record { inputs = a.inputs; gates = a.gates + b.gates; outputs = b.outputs }

abbrev pub glued_size : List ℕ → List ℕ → ℕ
glued_size a b = word_count (glued_counts (counts_of a) (counts_of b))

-- 10: the first's outputs are not as many as the second's inputs; 11: too many gates
abbrev pub fit_answer : Counts → Counts → Answer
fit_answer a b = refuse reason.Fit 0 0 (not (eqb a.outputs b.inputs)) ▹ refuse reason.Gates 0 0 (ltb gate_limit (glued_counts a b).gates)

-- 9 of the first, 9 of the second, 8, 10, 11, where n words are lent for the result
unfoldable pub glue_answer : List ℕ → List ℕ → ℕ → Answer
glue_answer a b n = net_answer 1 a ▹ net_answer 2 b ▹ room_answer 3 n (glued_size a b) ▹ fit_answer (counts_of a) (counts_of b)

-- the words of the first netlist glued to the second
abbrev pub glued_words : List ℕ → List ℕ → List ℕ
glued_words a b = words (glue (net_of a) (net_of b))

-- what a call that was lent a, b and out answers, and what it leaves in the last
pub record GluedAs (a b out : List ℕ) (r : Answer) (out' : List ℕ) : Type 0 where
  pub answered : r ≡ glue_answer a b (length out)
  pub written : out' ≡ left r (glued_words a b) out

-- two sound netlists that fit, and room for the glued one
pub record Fit (a b : List ℕ) (room : ℕ) : Type 0 where
  pub first : Sound a
  pub second : Sound b
  pub space : glued_size a b ≤ room
  pub fits : outputs_of a ≡ inputs_of b
  pub few : gates_of a + gates_of b ≤ gate_limit

-- three that fit in a row, together within the limit of gates, and room for all
pub record FitThree (a b c : List ℕ) (n : ℕ) : Type 0 where
  pub first : Sound a
  pub second : Sound b
  pub third : Sound c
  pub fits : outputs_of a ≡ inputs_of b
  pub fits' : outputs_of b ≡ inputs_of c
  pub few : gates_of a + gates_of b + gates_of c ≤ gate_limit
  pub space : gate_place (gates_of a + gates_of b + gates_of c) + outputs_of c ≤ n
