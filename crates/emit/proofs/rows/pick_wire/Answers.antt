use Rattle.emit.proofs.RowsVariables.{wire_plain, wire_not}
use Rattle.emit.proofs.rows.pick_wire.Goals as goal

pub returns-then-w-eq0 : goal.returns-then-w-eq0
returns-then-w-eq0 c = wire_plain _ _ _ c.if-w-eq0.true

pub returns-else-w-eq0 : goal.returns-else-w-eq0
returns-else-w-eq0 c = wire_not _ _ _ c.if-w-eq0.false
