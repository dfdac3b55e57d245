use Rattle.instance.specs.Keys.{key_bits_answer}
use Rattle.instance.proofs.key_bits.Goals as goal

pub returns : goal.returns
unfolding key_bits_answer
returns c = c.bits.ensures
