use mathlib.Core.Path.{◌≡◌}
use lib.ListN.{length}
use Rattle.netlist.specs.Put.{put_gates}
use Rattle.register.specs.InnerRounds.{plain_at, plain_rest}
use Rattle.register.proofs.wires.Netlist.plain_rounds.Given as goal

abbrev pub invariant-early : goal.invariant-early
invariant-early l =
    (put_gates l.out (plain_at l.n) (plain_rest l.self.iv.now l.self.m l.n) ≡ put_gates l.fn.out (plain_at 0) (plain_rest l.self.iv.now l.self.m 0)) × (length l.out ≡ length l.fn.out)

abbrev pub invariant-late : goal.invariant-late
invariant-late l =
    (put_gates l.out (plain_at l.n) (plain_rest l.self.iv.now l.self.m l.n) ≡ put_gates l.fn.out (plain_at 0) (plain_rest l.self.iv.now l.self.m 0)) × (length l.out ≡ length l.fn.out)
