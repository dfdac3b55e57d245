use lib.ListN.{length}
use Rattle.answer.specs.First.{Scan}
use Rattle.answer.specs.Bits.{above_one}
use Rattle.answer.proofs.first_no_bit.Given as goal

abbrev pub invariant-loop-i : goal.invariant-loop-i
invariant-loop-i l = Scan (above_one l.s) (length l.s) l.i
