use mathlib.Core.Path.{◌∙◌}
use Rattle.cipher.proofs.Block.{stream-words}
use Rattle.cipher.proofs.stream.put.Goals as goal

pub returns : goal.returns
returns c =
    let p = c.requires in
    c.put_front.ensures
    ∙ c.stream64.ensures _ p.0
    ∙ stream-words c.args.key.now c.args.iv.now p.1 p.2 p.3 _ _ _ _ _ c.key_word-k0.ensures c.key_word-k1.ensures c.word-v0.ensures c.word-v1.ensures
