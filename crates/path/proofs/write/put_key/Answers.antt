use mathlib.Core.Path.{◌∙◌}
use native.Mathlib.Omega.{arith}
use Rattle.instance.specs.Keys.{Keyed, key_in}
use Rattle.answer.proofs.Over.{over-front}
use Rattle.path.proofs.write.put_key.Goals as goal

pub put_bytes-requires : goal.put_bytes-requires
unfolding Keyed
put_bytes-requires c =
    omega (arith, c.requires.0.size, c.requires.1)

pub returns : goal.returns
unfolding Keyed key_in
returns c =
    c.put_bytes.ensures ∙ over-front _ _ (omega (arith, c.requires.0.size, c.requires.1))
