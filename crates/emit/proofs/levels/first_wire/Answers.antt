use Rattle.emit.proofs.Leaves.{wire_not, wire_input}
use Rattle.emit.proofs.levels.first_wire.Goals as goal

pub returns-then-lows-gt0 : goal.returns-then-lows-gt0
returns-then-lows-gt0 c = wire_not _ _ _ c.if-lows-gt0.true

pub returns-else-lows-gt0 : goal.returns-else-lows-gt0
returns-else-lows-gt0 c = wire_input _ _ _ c.if-lows-gt0.false
