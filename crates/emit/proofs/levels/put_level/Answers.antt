use native.Mathlib.Omega.{arith}
use Rattle.emit.proofs.Leaves.{pos_le}
use Rattle.emit.proofs.Climbing.{level_put}
use Rattle.emit.proofs.levels.put_level.Goals as goal

pub put_low-requires : goal.put_low-requires
put_low-requires c = omega (arith, pos_le c.args.r.highs)

pub put_tail-requires : goal.put_tail-requires
put_tail-requires c =
    omega (arith, pos_le c.args.r.highs)

pub returns : goal.returns
returns c =
    record { value = c.after_level.ensures; out_after = level_put c.args.r _ _ _ _ _ _ c.pos_of-low.ensures.0 c.put_low.ensures c.put_tail.ensures c.put_sum.ensures }
