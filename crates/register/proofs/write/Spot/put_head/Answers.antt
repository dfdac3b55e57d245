use Rattle.register.proofs.Few.{four}
use Rattle.register.proofs.write.Spot.put_head.Goals as goal

pub returns : goal.returns
returns c =
    four _ _ _ _ _ _ _ _ c.put_gate.ensures c.put_gate-2.ensures c.put_gate-3.ensures _ _ c.put_gate-4.ensures
