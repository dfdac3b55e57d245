use mathlib.Core.Path.{◌≡◌}
use Rattle.register.proofs.Words.{OutsFrom}
use Rattle.register.proofs.wires.Netlist.put_outs.Given as goal

abbrev pub invariant-loop-k : goal.invariant-loop-k
invariant-loop-k l = OutsFrom l.self.m l.k l.out ≡ OutsFrom l.self.m 0 l.initial.out
