use lib.ListN.{length}
use Rattle.answer.specs.First.{Scan}
use Rattle.choice.specs.Choice.{past_draw}
use Rattle.choice.proofs.judge_draws.Given as goal

abbrev pub invariant-loop-i : goal.invariant-loop-i
invariant-loop-i l = Scan (past_draw l.key l.draws) (length l.draws) l.i
