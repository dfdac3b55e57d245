use Rattle.register.proofs.Rounds.{output_put}
use Rattle.register.proofs.wires.Netlist.output_round.Goals as goal

pub returns : goal.returns
returns c =
    output_put _ _ _ _ _ _ _ _ c.gate_place-at.ensures c.put_head.ensures c.put_out.ensures c.put_tail.ensures
