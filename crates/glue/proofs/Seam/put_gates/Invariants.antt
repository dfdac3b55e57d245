use mathlib.Core.Path.{◌≡◌}
use mathlib.Core.List.{map}
use Rattle.answer.specs.Fronts.{over}
use Rattle.netlist.specs.Words.{header_words, gates_words, gates_at}
use Rattle.netlist.specs.Glue.{ren, thru}
use Rattle.glue.proofs.Seam.put_gates.Given as goal

abbrev pub invariant-loop-g : goal.invariant-loop-g
invariant-loop-g l = l.out ≡ over (gates_words (map (ren (thru l.self.outs.now l.self.base)) (gates_at l.second header_words l.g))) l.initial.out
