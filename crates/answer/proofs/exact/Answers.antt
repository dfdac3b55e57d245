use borrow.Author.Tests.{eq-eqb, ne_eqb}
use Rattle.answer.specs.Answers.{refuse}
use Rattle.answer.specs.Judges.{length_answer}
use Rattle.answer.proofs.exact.Goals as goal

pub returns-then-len-wanted : goal.returns-then-len-wanted
unfolding length_answer refuse
returns-then-len-wanted c = rw (c.refused.ensures) (simp (ne_eqb _ _ c.if-len-wanted.true))

pub returns : goal.returns
unfolding length_answer refuse
returns c = simp (eq-eqb _ _ c.if-len-wanted.false)
