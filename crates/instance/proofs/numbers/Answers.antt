use mathlib.Core.Path.{refl, sym, ◌∙◌}
use Rattle.answer.proofs.Rows.{stop, pass, refuse_yes, refuse_not}
use Rattle.instance.specs.Judging.{numbers_answer}
use Rattle.instance.proofs.Judged.{outside_yes}
use Rattle.instance.proofs.Accepted.{not_outside, done_numbers}
use Rattle.instance.proofs.numbers.Goals as goal

pub returns-then-instance-lt1 : goal.returns-then-instance-lt1
unfolding numbers_answer
returns-then-instance-lt1 c =
    c.refused.ensures ∙ stop _ (refuse_yes _ _ _ (outside_yes 1 6 _ c.then-instance-lt1.either)) refl

pub returns-then-m-lt1 : goal.returns-then-m-lt1
unfolding numbers_answer
returns-then-m-lt1 c =
    pass (refuse_not _ _ _ (not_outside 1 6 _ c.if-instance-lt1.false c.if-instance-gt6.false))
    (c.refused-then-m-lt1.ensures ∙ refuse_yes _ _ _ (outside_yes 1 64 _ c.then-m-lt1.either))

pub returns : goal.returns
returns c = sym (done_numbers _ _ c.if-instance-lt1.false c.if-instance-gt6.false c.if-m-lt1.false c.if-m-gt64.false)
