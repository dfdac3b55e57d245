use mathlib.Core.Path.{ap}
use Rattle.file.proofs.Put.{out_put, outs_next, word_put}
use Rattle.file.proofs.write.put_outs.Goals as goal

pub loop-o-preserved : goal.loop-o-preserved
loop-o-preserved c =
    outs_next _ _ _ _ c.loop-o.invariant
    (out_put _ _ _ _ _ c.put.ensures c.put-in-loop-o.ensures (word_put _ _ c.to_le_bytes.ensures) (ap (λ n. n.gates) c.requires.0))
