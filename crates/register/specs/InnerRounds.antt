-- Inner: only contracts of private functions cite this. Where the words and wires of Kreyvium's rounds begin, their gates
-- over what they read, and the gates that remain.
use Rattle.std.specs.Prelude.{List, ◌++◌, ℕ, ◌+◌, ◌-◌, ◌*◌}
use Rattle.netlist.specs.declared.counts.Counts.{Counts}
use Rattle.netlist.specs.declared.gate.Gate.{Gate}
use Rattle.netlist.specs.Words.{gate_place}
use Rattle.rounds.specs.Gates.{out_gates, gates_from}
use Rattle.register.specs.declared.wires.Taps.{Taps}
use Rattle.register.specs.InnerPlaces.{registers_at, head_of, tail_of}

-- the counts of the netlist for m bits: ZERO and ONE stand before the rounds
abbrev pub counts_for : ℕ → Counts
counts_for m = record { inputs = 128 + m; gates = 16130 + 17 * m; outputs = m }

-- round n, without output: its first word and wire, its gates, and all gates from there on
abbrev pub plain_at : ℕ → ℕ
plain_at n = gate_place (2 + 14 * n)

abbrev pub plain_wire : ℕ → ℕ → ℕ
plain_wire m n = 130 + m + 14 * n

abbrev pub plain_of : ℕ → ℕ → Taps → List Gate
plain_of m n t = head_of (plain_wire m n) t ++ tail_of (plain_wire m n) (plain_wire m n + 4) t

unfoldable pub plain_rest : List ℕ → ℕ → ℕ → List Gate
plain_rest iv m n = gates_from (1152 - n) m 128 (plain_wire m n) (registers_at iv m n)

-- round 1,152 + k, with output
abbrev pub output_at : ℕ → ℕ
output_at k = gate_place (16130 + 17 * k)

abbrev pub output_wire : ℕ → ℕ → ℕ
output_wire m k = 16258 + m + 17 * k

abbrev pub output_of : ℕ → ℕ → Taps → List Gate
output_of m k t =
    head_of (output_wire m k) t ++ (out_gates (output_wire m k) (output_wire m k + 4) (128 + k) ++ tail_of (output_wire m k) (output_wire m k + 7) t)

unfoldable pub output_rest : List ℕ → ℕ → ℕ → List Gate
output_rest iv m k = gates_from 0 (m - k) (128 + k) (output_wire m k) (registers_at iv m (1152 + k))
