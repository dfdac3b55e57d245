use mathlib.Core.Path.{ap, ◌∙◌}
use Rattle.answer.specs.Judges.{length_answer}
use Rattle.instance.specs.declared.Sizes.{Sizes}
use Rattle.instance.specs.Keys.{key_length_answer}
use Rattle.instance.proofs.key_length.Goals as goal

pub returns : goal.returns
unfolding key_length_answer
returns c =
    let a = c.args in
    c.exact.ensures ∙ ap (λ (s : Sizes). length_answer a.list a.len s.key) c.sizes_of-sizes.ensures
