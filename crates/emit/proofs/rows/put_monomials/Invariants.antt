use Rattle.emit.proofs.RowsSum.{Onward}
use Rattle.emit.proofs.rows.put_monomials.Given as goal

abbrev pub invariant-loop-j : goal.invariant-loop-j
invariant-loop-j l = Onward l.initial.out l.initial.acc l.initial.used l.next.at l.next.wire l.degrees l.xs l.out l.acc l.used l.j
