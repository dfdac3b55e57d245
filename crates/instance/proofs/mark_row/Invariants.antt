use Rattle.instance.proofs.Marks.{Marked}
use Rattle.instance.proofs.mark_row.Given as goal

abbrev pub invariant-loop-k : goal.invariant-loop-k
invariant-loop-k l = Marked l.row l.mark l.initial.seen l.seen l.k
