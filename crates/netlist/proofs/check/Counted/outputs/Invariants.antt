use mathlib.Core.Path.{◌≡◌}
use Rattle.std.specs.Prelude.{Ok}
use Rattle.answer.specs.Answers.{each}
use Rattle.netlist.specs.Check.{output_answer}
use Rattle.netlist.proofs.check.Counted.outputs.Given as goal

abbrev pub invariant-loop-o : goal.invariant-loop-o
invariant-loop-o l = each l.o (output_answer l.list l.self.net.now l.self.counts.inputs l.self.counts.gates) ≡ Ok tt
