use mathlib.Core.Path.{ap₂, ◌∙◌}
use mathlib.Core.List.{◌++◌}
use Rattle.frames.proofs.Turned.{two_halves}
use Rattle.frames.proofs.iv.Iv.of_bits.Goals as goal

pub returns : goal.returns
returns c = ap₂ ◌++◌ c.bit_word.ensures.1 c.bit_word-2.ensures.1 ∙ two_halves c.args.iv.now c.requires.size
