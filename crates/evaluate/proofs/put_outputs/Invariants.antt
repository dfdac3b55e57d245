use mathlib.Core.Path.{◌≡◌}
use mathlib.Core.List.{map}
use lib.ListN.{take}
use Rattle.answer.specs.Fronts.{over}
use Rattle.netlist.specs.Net.{at, val_alg}
use Rattle.evaluate.proofs.put_outputs.Given as goal

abbrev pub invariant-loop-o : goal.invariant-loop-o
invariant-loop-o l = l.outputs ≡ over (map (at val_alg l.values) (take l.o l.wires)) l.initial.outputs
