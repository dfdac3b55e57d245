use lib.ListN.{length}
use Rattle.answer.specs.First.{Scan}
use Rattle.instance.specs.Judging.{past_key}
use Rattle.instance.proofs.below.Given as goal

abbrev pub invariant-loop-k : goal.invariant-loop-k
invariant-loop-k l = Scan (past_key l.fn.key l.s) (length l.s) l.k
