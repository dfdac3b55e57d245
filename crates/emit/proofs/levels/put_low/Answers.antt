use native.Mathlib.Omega.{arith}
use Rattle.emit.proofs.Leaves.{pos-some, low_kept, low_left}
use Rattle.emit.proofs.levels.put_low.Goals as goal

pub put_gate-requires : goal.put_gate-requires
put_gate-requires c = omega (arith, pos-some _ c.if-lows-gt0.true)

pub put_gate-requires-then-lows-gt0 : goal.put_gate-requires-then-lows-gt0
put_gate-requires-then-lows-gt0 c = omega (arith, pos-some _ c.if-lows-gt0.true)

pub returns-then-lows-gt0 : goal.returns-then-lows-gt0
returns-then-lows-gt0 c =
    low_kept _ _ _ _ _ _ _ _ c.if-lows-gt0.true c.put_gate.ensures c.put_gate-then-lows-gt0.ensures

pub returns-else-lows-gt0 : goal.returns-else-lows-gt0
returns-else-lows-gt0 c = low_left _ _ _ _ _ _ c.if-lows-gt0.false
