use Rattle.emit.proofs.Climbing.{first_is}
use Rattle.emit.proofs.levels.first_level.Goals as goal

pub returns : goal.returns
returns c =
    let a = c.args in first_is a.at a.next a.lows a.highs a.x _ _ _ _ _ _ c.pos_of-low.ensures.0 c.down_of-fewer.ensures.0 c.down_of.ensures.0 c.pos_of.ensures.0 c.down_of-2.ensures.1 c.first_wire-first.ensures
