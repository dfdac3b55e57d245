use mathlib.Core.Path.{sym}
use native.Mathlib.Omega.{arith}
use Rattle.kreyvium.specs.Early.{early}
use Rattle.kreyvium.specs.Kreyvium.{t1}
use Rattle.kreyvium.proofs.Bits.{bit_xor_lem, bit_and_lem, odd_sum}
use Rattle.kreyvium.proofs.Blocks.{pair_one, early-iv}
use Rattle.kreyvium.proofs.State.word_one.Goals as goal

pub returns : goal.returns
unfolding early t1
returns c = λ i h.
    simp (bit_xor_lem, bit_and_lem, odd_sum)
    (pair_one _ _
    (c.taps.ensures 93 i (omega arith) (omega arith) (omega arith) h)
    (c.tap.ensures 93 i (omega arith) (omega arith) h)
    (c.tap-2.ensures 93 i (omega arith) (omega arith) h)
    (c.tap-3.ensures 84 i (omega arith) (omega arith) h)
    (sym (early-iv c.args.self i h)))
