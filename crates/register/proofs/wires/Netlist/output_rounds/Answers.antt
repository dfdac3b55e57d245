use mathlib.Core.Path.{ap, ◌∙◌}
use native.Mathlib.Omega.{arith}
use lib.ListN.{length}
use Rattle.netlist.proofs.Puts.{put_length}
use Rattle.register.proofs.Rounds.{output_turn, output_end}
use Rattle.register.proofs.wires.Netlist.output_rounds.Goals as goal

pub loop-k-preserved : goal.loop-k-preserved
loop-k-preserved c =
    let put = c.output_round.ensures in
    (output_turn _ _ _ _ _ _ (omega arith) c.late_taps.ensures put ∙ c.loop-k.invariant.0, ap length put ∙ put_length _ _ _ ∙ c.loop-k.invariant.1)

pub returns : goal.returns
returns c = output_end _ _ _ _ (omega arith) ∙ c.loop-k.invariant.0
