use Rattle.emit.proofs.RowsProduct.{Chaining}
use Rattle.emit.proofs.rows.put_chain.Given as goal

abbrev pub invariant-loop-j : goal.invariant-loop-j
invariant-loop-j l = Chaining l.initial.out l.fn.next.at l.fn.next.wire l.ws l.out l.i l.acc l.wire l.j
