use mathlib.Core.Path.{refl}
use native.Mathlib.Omega.{arith}
use Rattle.file.proofs.Put.{file_put, words_part}
use Rattle.file.proofs.write.put_file.Goals as goal

pub returns : goal.returns
returns c =
    file_put _ _ _ _ c.requires.1 c.mark_of.ensures c.counts_of-counts.ensures c.put.ensures c.put_words.ensures (words_part _ 0 _ _ refl (omega (arith, c.requires.0.size))) c.put_gates-at.ensures.0 c.put_gates-at.ensures.1 c.put_outs.ensures
