use mathlib.Core.Path.{sym, ◌∙◌}
use Rattle.answer.proofs.Rows.{go}
use Rattle.judging.specs.Judging.{encipher_answer}
use Rattle.judging.specs.Inner.{record_lengths, result_answer}
use Rattle.judging.proofs.Shared.{no_indices, room_alone}
use Rattle.judging.proofs.kreyvium.Goals as goal

pub returns : goal.returns
unfolding encipher_answer record_lengths result_answer
returns c =
    let l = c.record_lengths.ensures in
    go c.numbers.ensures c.in_ok-numbers.was
    (go l c.in_ok-record_lengths.was
    (go c.record_bits.ensures c.in_ok-record_bits.was
    (c.result.ensures ∙ room_alone _ _ _ _ (no_indices _ _ _ _ _ (sym l ∙ c.in_ok-record_lengths.was)))))
