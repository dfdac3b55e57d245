-- What a call that emits a netlist answers and leaves.
use Rattle.answer.specs.Answers.{Answer}
use Rattle.std.specs.Prelude.{ℕ, ◌≡◌, List}
use Rattle.answer.specs.Fronts.{left}
use Rattle.netlist.specs.Net.{Net}
use Rattle.netlist.specs.Words.{words}

-- a call that was due this answer, of this netlist: what it answered and what it left in the result
pub record Emitted (due : Answer) (net : Net) (out : List ℕ) (r : Answer) (out' : List ℕ) : Type 0 where
  pub answered : r ≡ due
  pub written : out' ≡ left r (words net) out
