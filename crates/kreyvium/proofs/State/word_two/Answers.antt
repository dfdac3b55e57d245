use native.Mathlib.Omega.{arith}
use Rattle.kreyvium.specs.Early.{early}
use Rattle.kreyvium.specs.Kreyvium.{t2}
use Rattle.kreyvium.proofs.Bits.{bit_xor_lem, bit_and_lem, odd_sum}
use Rattle.kreyvium.proofs.Blocks.{pair_two}
use Rattle.kreyvium.proofs.State.word_two.Goals as goal

pub returns : goal.returns
unfolding early t2
returns c = λ i h.
    simp (bit_xor_lem, bit_and_lem, odd_sum)
    (pair_two _ _
    (c.taps.ensures 84 i (omega arith) (omega arith) (omega arith) h)
    (c.tap.ensures 84 i (omega arith) (omega arith) h)
    (c.tap-2.ensures 84 i (omega arith) (omega arith) h)
    (c.tap-3.ensures 111 i (omega arith) (omega arith) h))
