-- Evaluation of a netlist on bits in the clear. docs/RULES.md, "Netlists": a value for every wire, then the outputs.
-- Lists: 1 the netlist, 2 the inputs, 3 the values, 4 the outputs.
use Rattle.std.specs.Prelude.{ℕ, ◌+◌, ◌≡◌, List, length}
use Rattle.answer.specs.Answers.{Answer, ◌▹◌}
use Rattle.answer.specs.Bits.{bits_answer}
use Rattle.answer.specs.Judges.{length_answer, room_answer}
use Rattle.answer.specs.Fronts.{left}
use Rattle.netlist.specs.Net.{values, eval}
use Rattle.netlist.specs.Words.{inputs_of, gates_of, outputs_of, net_of}
use Rattle.netlist.specs.Check.{net_answer}

-- 9, 3, 4, 8, where v and o words are lent for the values and the outputs
unfoldable pub evaluate_answer : List ℕ → List ℕ → ℕ → ℕ → Answer
evaluate_answer net inputs v o =
    net_answer 1 net
    ▹ length_answer 2 (length inputs) (inputs_of net)
    ▹ bits_answer 2 inputs
    ▹ room_answer 3 v (inputs_of net + gates_of net)
    ▹ room_answer 4 o (outputs_of net)

-- what a call that was lent net, inputs, vals and outs answers, and what it leaves in the last two
pub record Evaluated (net inputs vals outs : List ℕ) (r : Answer) (vals' outs' : List ℕ) : Type 0 where
  pub answered : r ≡ evaluate_answer net inputs (length vals) (length outs)
  pub filled : vals' ≡ left r (values (net_of net) inputs) vals
  pub given : outs' ≡ left r (eval (net_of net) inputs) outs
