use mathlib.Core.Path.{refl}
use native.Mathlib.Omega.{arith}
use Rattle.file.proofs.Put.{gate_put, gate_size, words_part}
use Rattle.file.proofs.write.put_gate.Goals as goal

pub returns : goal.returns
returns c = (
  gate_put _ _ _ _ _ c.put.ensures c.put_words.ensures (words_part _ _ _ _ refl (omega arith)) refl c.width-n.ensures.0,
  gate_size _ _ _ refl c.width-n.ensures.0,
)
