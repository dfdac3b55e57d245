use Rattle.meter.proofs.Depths.{max-more}
use Rattle.meter.proofs.largest.Goals as goal

pub loop-depth-preserved : goal.loop-depth-preserved
loop-depth-preserved c = max-more _ _ c.loop-depth-test.true c.loop-depth.invariant c.max-top.ensures
