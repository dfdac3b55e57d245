-- Gates' words stored one after the other.
use Rattle.std.specs.Prelude.{ℕ, ◌+◌, ◌≡◌, List, [], ◌∷◌}
use Rattle.std.proofs.lemmas.List.Edits.{sets}
use Rattle.netlist.specs.declared.gate.Gate.{Gate}
use Rattle.netlist.specs.Gates.{gate_words}
use Rattle.netlist.specs.Words.{gate_stride}
use Rattle.netlist.specs.Part.{Part}

-- the gates' words stored from word at on
unfoldable pub put_gates : List ℕ → ℕ → List Gate → List ℕ
put_gates out at [] = out
put_gates out at (g ∷ gs) = put_gates (sets out at (gate_words g)) (at + gate_stride) gs

-- a part stored from word at on, and its wire given back
pub record Wrote (out : List ℕ) (at : ℕ) (p : Part) (out' : List ℕ) (r : ℕ) : Type 0 where
  pub gates : out' ≡ put_gates out at p.gates
  pub wire : r ≡ p.out
