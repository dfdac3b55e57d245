use Rattle.register.proofs.Rounds.{plain_put}
use Rattle.register.proofs.wires.Netlist.plain_round.Goals as goal

pub returns : goal.returns
returns c =
    plain_put _ _ _ _ _ _ _ c.gate_place-at.ensures c.put_head.ensures c.put_tail.ensures
