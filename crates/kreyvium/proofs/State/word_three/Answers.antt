use mathlib.Core.Path.{sym}
use native.Mathlib.Omega.{arith}
use Rattle.kreyvium.specs.Early.{early}
use Rattle.kreyvium.specs.Kreyvium.{t3}
use Rattle.kreyvium.proofs.Bits.{bit_xor_lem, bit_and_lem, odd_sum}
use Rattle.kreyvium.proofs.Blocks.{pair_three, early_key}
use Rattle.kreyvium.proofs.State.word_three.Goals as goal

pub returns : goal.returns
unfolding early t3
returns c = λ i h.
    simp (bit_xor_lem, bit_and_lem, odd_sum)
    (pair_three _ _
    (c.taps.ensures 111 i (omega arith) (omega arith) (omega arith) h)
    (sym (early_key c.args.self i h))
    (c.tap.ensures 111 i (omega arith) (omega arith) h)
    (c.tap-2.ensures 111 i (omega arith) (omega arith) h)
    (c.tap-3.ensures 93 i (omega arith) (omega arith) h))
