use lib.ListN.{length}
use Rattle.answer.specs.First.{Scan}
use Rattle.instance.specs.Judging.{is_one}
use Rattle.instance.proofs.whitening.Given as goal

abbrev pub invariant-loop-k : goal.invariant-loop-k
invariant-loop-k l = Scan (is_one l.s) (length l.s) l.k
