use lib.ListN.{length}
use Rattle.emit.proofs.RowsBits.{Bitting}
use Rattle.emit.proofs.rows.RowsNet.put_bits.Given as goal

abbrev pub invariant-loop-j : goal.invariant-loop-j
invariant-loop-j l = Bitting l.self.instance l.self.indices.now l.self.whitening.now (length l.initial.wires) l.fn.next.at l.fn.next.wire l.initial.out l.out l.xs l.wires l.i l.wire l.start l.j
