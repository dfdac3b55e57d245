use native.Mathlib.Omega.{arith}
use Rattle.answer.proofs.Judges.{bits-within}
use Rattle.instance.specs.Table.{sizes_of}
use Rattle.instance.specs.Keys.{Keyed, key_in}
use Rattle.cipher.proofs.stream.key_word.Goals as goal

pub invariant_of-word : goal.invariant_of-word
unfolding Keyed
invariant_of-word c = record { small = bits-within c.args.key.now c.requires.0.bit }

pub word-requires : goal.word-requires
unfolding Keyed sizes_of
word-requires c = omega (arith, c.requires.0.size, c.requires.1)

pub returns : goal.returns
unfolding key_in
returns c = c.word.ensures
