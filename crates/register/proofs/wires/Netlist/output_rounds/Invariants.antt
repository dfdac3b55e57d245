use mathlib.Core.Path.{◌≡◌}
use lib.ListN.{length}
use Rattle.netlist.specs.Put.{put_gates}
use Rattle.register.specs.InnerRounds.{output_at, output_rest}
use Rattle.register.proofs.wires.Netlist.output_rounds.Given as goal

abbrev pub invariant-loop-k : goal.invariant-loop-k
invariant-loop-k l =
    (put_gates l.out (output_at l.k) (output_rest l.self.iv.now l.self.m l.k) ≡ put_gates l.initial.out (output_at 0) (output_rest l.self.iv.now l.self.m 0)) × (length l.out ≡ length l.initial.out)
