use Rattle.emit.proofs.RowsVariables.{Going}
use Rattle.emit.proofs.rows.put_vars.Given as goal

abbrev pub invariant-loop-j : goal.invariant-loop-j
invariant-loop-j l = Going l.row l.ws l.initial.out l.fn.next.at l.fn.next.wire l.out l.xs l.i l.wire l.j
