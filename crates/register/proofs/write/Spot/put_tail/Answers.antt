use Rattle.register.proofs.Few.{tail_put}
use Rattle.register.proofs.write.Spot.put_tail.Goals as goal

pub returns : goal.returns
returns c =
    tail_put _ _ _ _ _ _ _ _ _ _ _ _ _ _ _ _ c.put_gain.ensures c.put_gate.ensures c.put_gain-2.ensures c.put_gain-3.ensures
