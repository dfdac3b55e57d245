use mathlib.Core.Path.{ap₂, ◌∙◌}
use mathlib.Core.List.{◌++◌}
use native.Mathlib.Omega.{arith}
use Rattle.answer.proofs.Judges.{bits-within}
use Rattle.instance.specs.Table.{sizes_of}
use Rattle.instance.specs.Keys.{Keyed, key_in}
use Rattle.frames.proofs.Turned.{two_halves}
use Rattle.frames.proofs.seal.Key.lent.Goals as goal

pub bit_word-requires : goal.bit_word-requires
unfolding Keyed sizes_of
bit_word-requires c =
    let k = c.requires in
    (omega (arith, k.size), bits-within c.args.key.now k.bit)

pub bit_word-requires-2 : goal.bit_word-requires-2
unfolding Keyed sizes_of
bit_word-requires-2 c =
    (omega (arith, c.requires.size), bits-within c.args.key.now c.requires.bit)

pub returns : goal.returns
unfolding Keyed key_in sizes_of
returns c =
    let key = c.args.key.now in
    ap₂ ◌++◌ (c.reversed.ensures ∙ c.bit_word.ensures.1) (c.reversed-2.ensures ∙ c.bit_word-2.ensures.1)
    ∙ two_halves key c.requires.size
