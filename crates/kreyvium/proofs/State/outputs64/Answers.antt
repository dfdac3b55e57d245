use mathlib.Core.Path.{sym}
use native.Mathlib.Omega.{arith}
use Rattle.kreyvium.specs.Early.{early}
use Rattle.kreyvium.specs.Kreyvium.{out_of}
use Rattle.kreyvium.proofs.Bits.{bit_xor_lem, odd_sum}
use Rattle.kreyvium.proofs.Blocks.{pairs_out, early_key, block_out}
use Rattle.kreyvium.proofs.State.outputs64.Goals as goal

pub returns : goal.returns
unfolding early out_of
returns c =
    block_out _ _ (λ i h.
    simp (bit_xor_lem, odd_sum)
    (pairs_out _ _ _ _ _ _
    (c.taps.ensures 93 i (omega arith) (omega arith) (omega arith) h)
    (c.taps-2.ensures 84 i (omega arith) (omega arith) (omega arith) h)
    (c.taps-3.ensures 111 i (omega arith) (omega arith) (omega arith) h)
    (sym (early_key c.args.self i h))))
