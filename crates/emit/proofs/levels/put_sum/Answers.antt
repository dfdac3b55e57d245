use native.Mathlib.Omega.{arith}
use Rattle.emit.proofs.Leaves.{pos_none, sum_kept, sum_left}
use Rattle.emit.proofs.levels.put_sum.Goals as goal

pub put_gate-requires : goal.put_gate-requires
put_gate-requires c = omega (arith, pos_none c.args.highs (omega arith))

pub returns-then-highs-eq0 : goal.returns-then-highs-eq0
returns-then-highs-eq0 c = sum_kept _ _ _ _ _ _ c.if-highs-eq0.true c.put_gate.ensures

pub returns-else-highs-eq0 : goal.returns-else-highs-eq0
returns-else-highs-eq0 c = sum_left _ _ _ _ _ c.if-highs-eq0.false
