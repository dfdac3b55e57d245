use Rattle.emit.proofs.Shapes.{threshold_counts}
use Rattle.emit.proofs.nets.Threshold.counts.Goals as goal

pub returns : goal.returns
returns c = (threshold_counts _ _ _ c.count.ensures.0, c.count.ensures.1)
