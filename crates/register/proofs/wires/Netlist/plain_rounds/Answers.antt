use mathlib.Core.Path.{ap, ◌∙◌}
use native.Mathlib.Omega.{arith}
use lib.ListN.{length}
use Rattle.netlist.proofs.Puts.{put_length}
use Rattle.register.proofs.Rounds.{plain_turn, plain_from, plain_end}
use Rattle.register.proofs.wires.Netlist.plain_rounds.Goals as goal

pub early-preserved : goal.early-preserved
early-preserved c =
    let put = c.plain_round.ensures in
    (plain_turn _ _ _ _ _ _ (omega arith) c.early_taps.ensures put ∙ c.early.invariant.0, ap length put ∙ put_length _ _ _ ∙ c.early.invariant.1)

pub late-init : goal.late-init
late-init c = (plain_from _ _ _ _ (omega arith) ∙ c.early.invariant.0, c.early.invariant.1)

pub late-preserved : goal.late-preserved
late-preserved c =
    let put = c.plain_round-in-late.ensures in
    (plain_turn _ _ _ _ _ _ (omega arith) c.late_taps.ensures put ∙ c.late.invariant.0, ap length put ∙ put_length _ _ _ ∙ c.late.invariant.1)

pub returns : goal.returns
returns c = plain_end _ _ _ _ (omega arith) ∙ c.late.invariant.0
