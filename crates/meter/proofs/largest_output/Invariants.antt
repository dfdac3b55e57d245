use mathlib.Core.Path.{◌≡◌}
use mathlib.Core.List.{map}
use lib.ListN.{take}
use Rattle.netlist.specs.Net.{max_of, at, dep_alg}
use Rattle.meter.proofs.largest_output.Given as goal

abbrev pub invariant-loop-wire : goal.invariant-loop-wire
invariant-loop-wire l = l.top ≡ max_of (map (at dep_alg l.depths) (take l.wire-index l.wires))
