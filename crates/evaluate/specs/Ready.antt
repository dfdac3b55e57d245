-- What an accepted call of evaluate is, for those who make one; v and o words are lent for the values and the outputs.
use Rattle.std.specs.Prelude.{ℕ, ◌+◌, ◌<◌, ◌≤◌, ◌≡◌, List, length, get_or}
use Rattle.netlist.specs.Words.{inputs_of, gates_of, outputs_of}
use Rattle.netlist.specs.Sound.{Sound}

pub record Ready (net inputs : List ℕ) (v o : ℕ) : Type 0 where
  pub sound : Sound net
  pub count : length inputs ≡ inputs_of net
  pub bits : (k : ℕ) → k < length inputs → get_or inputs k 0 ≤ 1
  pub values : inputs_of net + gates_of net ≤ v
  pub outputs : outputs_of net ≤ o
