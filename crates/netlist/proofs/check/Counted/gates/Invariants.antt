use mathlib.Core.Path.{◌≡◌}
use Rattle.std.specs.Prelude.{Ok}
use Rattle.answer.specs.Answers.{each}
use Rattle.netlist.specs.Check.{gate_answer}
use Rattle.netlist.proofs.check.Counted.gates.Given as goal

abbrev pub invariant-loop-g : goal.invariant-loop-g
invariant-loop-g l = each l.g (gate_answer l.list l.self.net.now l.self.counts.inputs) ≡ Ok tt
