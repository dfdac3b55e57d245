use native.Mathlib.Omega.{arith}
use Rattle.register.proofs.Few.{part_put}
use Rattle.emit.proofs.put.put_words.Goals as goal

pub returns : goal.returns
returns c = part_put _ _ _ _ _ c.copy_from_slice.ensures.after (omega arith) (omega arith)
