use Prim.Native.Nat.{◌+◌, ◌-◌}
use mathlib.Core.Path.{◌≡◌}
use lib.Seq.{sets}
use Rattle.netlist.specs.Glue.{up_from}
use Rattle.emit.proofs.put.put_wires.Given as goal

abbrev pub invariant-loop-k : goal.invariant-loop-k
invariant-loop-k l = sets l.out (l.at + l.k) (up_from (l.from + l.k) (l.n - l.k)) ≡ sets l.initial.out l.at (up_from l.from l.n)
