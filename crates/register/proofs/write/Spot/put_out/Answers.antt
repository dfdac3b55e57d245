use Rattle.register.proofs.Few.{three}
use Rattle.register.proofs.write.Spot.put_out.Goals as goal

pub returns : goal.returns
returns c =
    three _ _ _ _ _ _ _ _ c.put_gate.ensures c.put_gate-2.ensures c.put_gate-3.ensures
