use mathlib.Core.Path.{◌≡◌}
use Rattle.std.specs.Prelude.{Ok}
use Rattle.answer.specs.Answers.{each}
use Rattle.records.specs.File.{start_of}
use Rattle.records.specs.Inner.{gate_wire}
use Rattle.records.proofs.wires.gate_wires.Given as goal

abbrev pub invariant-loop-g : goal.invariant-loop-g
invariant-loop-g l = (each l.g (gate_wire l.form l.s l.counts.inputs) ≡ Ok tt) × (l.at ≡ start_of l.form l.s l.g)
