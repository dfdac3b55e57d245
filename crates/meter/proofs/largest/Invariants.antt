use mathlib.Core.Path.{◌≡◌}
use lib.ListN.{take}
use Rattle.netlist.specs.Net.{max_of}
use Rattle.meter.proofs.largest.Given as goal

abbrev pub invariant-loop-depth : goal.invariant-loop-depth
invariant-loop-depth l = l.top ≡ max_of (take l.depth-index l.depths)
