use lib.ListN.{length}
use Rattle.netlist.specs.Glue.{up_from}
use Rattle.cells.specs.InnerLoop.{cells}
use Rattle.emit.proofs.Climbing.{Counting}
use Rattle.emit.proofs.levels.Cells.count.Given as goal

abbrev pub invariant-loop-level : goal.invariant-loop-level
invariant-loop-level l = Counting (up_from 0 l.fn.self.n) l.fn.self.n (length (cells (up_from 0 l.fn.self.n) l.fn.self.lows l.fn.self.highs l.fn.self.n)) l.r l._level
