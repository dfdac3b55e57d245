use mathlib.Core.Path.{◌≡◌}
use mathlib.Core.List.{map}
use lib.ListN.{take}
use Rattle.answer.specs.Fronts.{over}
use Rattle.netlist.specs.Glue.{thru}
use Rattle.glue.proofs.Seam.put_outputs.Given as goal

abbrev pub invariant-loop-o : goal.invariant-loop-o
invariant-loop-o l = l.out ≡ over (map (thru l.self.outs.now l.self.base) (take l.o l.wires)) l.initial.out
