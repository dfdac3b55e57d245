use Rattle.std.proofs.Common.{sym, ◌∙◌, arith}
use Rattle.sequence.proofs.Judged.{word_none, word_there}
use Rattle.sequence.proofs.word.Goals as goal

pub returns-then-s-lt8 : goal.returns-then-s-lt8
returns-then-s-lt8 c = let a = c.args in word_none a.s.now a.at (omega arith)

pub returns-then-s-at : goal.returns-then-s-at
returns-then-s-at c = let a = c.args in word_none a.s.now a.at (omega arith)

pub returns : goal.returns
returns c =
    let a = c.args in
    c.eight_bytes.ensures ∙ sym (word_there a.s.now a.at (omega arith))
