-- Inner: only contracts of private functions cite this. What the writers of the parts of a glued netlist are lent and
-- write.
use Rattle.std.specs.Prelude.{ℕ, ◌+◌, ◌*◌, ◌<◌, ◌≤◌, List, ◌++◌, map, length, get_or, drop}
use Rattle.netlist.specs.Words.{header_words, gate_stride, gate_place, gates_of, outputs_of, gates_words, gates_at}
use Rattle.netlist.specs.Glue.{ren, thru}
use Rattle.netlist.specs.Check.{output_limit}
use Rattle.netlist.specs.Sound.{Sound}

-- behind base wires, some wires are still words
abbrev pub SmallAll : ℕ → List ℕ → Type 0
SmallAll base wires = (i : ℕ) → i < length wires → base + get_or wires i 0 < 4294967296

-- the second netlist's gates and then its outputs, over the wires of the glued one
unfoldable pub second_words : List ℕ → List ℕ → ℕ → List ℕ
second_words b outs base =
    gates_words (map (ren (thru outs base)) (gates_at b header_words (gates_of b))) ++ map (thru outs base) (drop (gate_place (gates_of b)) b)

-- a sound second netlist behind base wires, outs for its inputs, and room for its gates and outputs
pub record Second (b outs : List ℕ) (base room : ℕ) : Type 0 where
  pub sound : Sound b
  pub few : base < 1000000
  pub inputs : length outs ≤ output_limit
  pub space : gate_stride * gates_of b + outputs_of b ≤ room
