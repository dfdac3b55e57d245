use Prim.Native.Nat.{◌+◌, ◌-◌}
use mathlib.Core.Path.{◌≡◌}
use mathlib.Core.List.{◌++◌}
use Rattle.netlist.specs.Words.{header_words, gate_place, gates_at}
use Rattle.text.specs.Text.{gate_lines}
use Rattle.text.proofs.text.Text.gates.Given as goal

-- what is still to be printed completes the text
abbrev pub invariant-loop-i : goal.invariant-loop-i
invariant-loop-i l = l.self ++ gate_lines (l.inputs + l.i) (gates_at l.words (gate_place l.i) (l.gates - l.i)) ≡ l.initial.self ++ gate_lines l.inputs (gates_at l.words header_words l.gates)
