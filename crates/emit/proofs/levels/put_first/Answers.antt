use native.Mathlib.Omega.{arith}
use Rattle.emit.proofs.Leaves.{pos-some, first_kept, first-left}
use Rattle.emit.proofs.levels.put_first.Goals as goal

pub put_gate-requires : goal.put_gate-requires
put_gate-requires c = omega (arith, pos-some _ c.if-lows-gt0.true)

pub returns-then-lows-gt0 : goal.returns-then-lows-gt0
returns-then-lows-gt0 c = first_kept _ _ _ _ _ c.if-lows-gt0.true c.put_gate.ensures

pub returns-else-lows-gt0 : goal.returns-else-lows-gt0
returns-else-lows-gt0 c = first-left _ _ _ _ c.if-lows-gt0.false
