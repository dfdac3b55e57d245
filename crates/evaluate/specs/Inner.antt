-- Inner: only contracts of private functions cite this. A gate's values as one number; the walk over the gates: what it has
-- written after n of them, and what it asks.
use Rattle.std.specs.Prelude.{ℕ, ◌+◌, ◌*◌, ◌/◌, ◌%◌, ◌^◌, ◌<◌, ◌≤◌, ◌≡◌, List, length, get_or, take, Some}
use Rattle.answer.specs.Fronts.{over}
use Rattle.netlist.specs.Net.{Uses, run, val_alg}
use Rattle.netlist.specs.declared.gate.Gate.{Gate}
use Rattle.netlist.specs.declared.gate.Gate.TheVariants.{Zero, One, Not, Xor, And, Mux}
use Rattle.netlist.specs.Words.{header_words, gate_place, taken_at, gate_at, gates_at}

-- a gate's values: bit x + 2y + 4z is the value where a, b and c carry x, y and z
abbrev pub truth_of : Gate → ℕ
truth_of Zero = 0
truth_of One = 255
truth_of (Not a) = 85
truth_of (Xor a b) = 102
truth_of (And a b) = 136
truth_of (Mux a b c) = 228

-- a gate's value, read off its number
unfoldable pub truth_at : Gate → ℕ → ℕ → ℕ → ℕ
truth_at g x y z = truth_of g / 2 ^ (x % 2 + 2 * (y % 2) + 4 * (z % 2)) % 2

-- the values of the first n gates after those of the inputs, I of them, which stand at the front of vals
unfoldable pub gates_put : List ℕ → ℕ → ℕ → List ℕ → List ℕ
gates_put net I n vals = over (run val_alg (take I vals) (gates_at net header_words n)) vals

-- The words of G gates are there, each of a known kind and over earlier wires, its three operand words no later than the
-- gate's own; the values have room, and bits at the inputs.
pub record GatesFit (net : List ℕ) (I G : ℕ) (vals : List ℕ) : Type 0 where
  pub words : gate_place G ≤ length net
  pub known : (g : ℕ) → g < G → taken_at net (gate_place g) ≡ Some (gate_at net (gate_place g))
  pub uses : (g : ℕ) → g < G → Uses (I + g) (gate_at net (gate_place g))
  pub low : (g : ℕ) → g < G → (get_or net (gate_place g + 1) 0 ≤ I + g) × (get_or net (gate_place g + 2) 0 ≤ I + g) × (get_or net (gate_place g + 3) 0 ≤ I + g)
  pub room : I + G ≤ length vals
  pub bits : (i : ℕ) → i < I → get_or vals i 0 ≤ 1
