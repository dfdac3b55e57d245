use Rattle.emit.proofs.Shapes.{hot_counts}
use Rattle.emit.proofs.nets.OneHot.counts.Goals as goal

pub returns : goal.returns
returns c = (hot_counts _ _ c.count.ensures.0, c.count.ensures.1)
