use mathlib.Core.Path.{◌≡◌}
use Rattle.std.specs.Prelude.{Ok}
use Rattle.answer.specs.Answers.{each}
use Rattle.records.specs.Inner.{out_wire}
use Rattle.records.proofs.wires.out_wires.Given as goal

abbrev pub invariant-loop-o : goal.invariant-loop-o
invariant-loop-o l = each l.o (out_wire l.s l.from l.fn.counts.inputs l.fn.counts.gates) ≡ Ok tt
