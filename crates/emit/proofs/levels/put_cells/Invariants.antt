use lib.ListN.{length}
use Rattle.cells.specs.InnerLoop.{cells}
use Rattle.emit.proofs.Climbing.{Climbing}
use Rattle.emit.proofs.levels.put_cells.Given as goal

abbrev pub invariant-loop-j : goal.invariant-loop-j
invariant-loop-j l = Climbing l.ws l.fn.next.wire (length (cells l.ws l.lows l.highs l.fn.next.wire)) l.initial.out l.initial.r l.out l.r l.j
