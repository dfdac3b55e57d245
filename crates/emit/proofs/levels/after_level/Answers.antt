use Rattle.emit.proofs.Climbing.{after_is}
use Rattle.emit.proofs.levels.after_level.Goals as goal

pub returns : goal.returns
returns c =
    after_is c.args.r _ _ _ _ _ _ c.pos_of-low.ensures.0 c.pos_of-xor.ensures.0 c.down_of-fewer.ensures.0 c.down_of.ensures.0 c.pos_of.ensures.0 c.down_of-2.ensures.1
