use lib.ListN.{length}
use Rattle.answer.specs.First.{Scan}
use Rattle.instance.specs.Judging.{same_from, repeats_in_row}
use Rattle.instance.proofs.RowList.first_repeat.Given as goal

abbrev pub invariant-loop-j : goal.invariant-loop-j
invariant-loop-j l = Scan (same_from l.start l.self.s.now l.k) l.size l.j

abbrev pub invariant-loop-k : goal.invariant-loop-k
invariant-loop-k l = Scan (repeats_in_row l.self.n l.self.s.now) (length l.self.s.now) l.k
