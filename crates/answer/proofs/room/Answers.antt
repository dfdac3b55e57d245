use borrow.Author.Tests.{lt-ltb, le-ltb}
use Rattle.answer.specs.Answers.{refuse}
use Rattle.answer.specs.Judges.{room_answer}
use Rattle.answer.proofs.room.Goals as goal

pub returns-then-len-needed : goal.returns-then-len-needed
unfolding room_answer refuse
returns-then-len-needed c = rw (c.refused.ensures) (simp (lt-ltb _ _ c.if-len-needed.true))

pub returns : goal.returns
unfolding room_answer refuse
returns c = simp (le-ltb _ _ c.if-len-needed.false)
