use mathlib.Core.Path.{sym, ◌∙◌}
use native.Mathlib.Omega.{arith}
use Rattle.answer.specs.declared.Reason.TheVariants.{Bit}
use Rattle.answer.specs.Bits.{bits_answer}
use Rattle.answer.proofs.Judges.{first_stop, first_go, done_bits, or_above}
use Rattle.answer.proofs.bits.Goals as goal

pub returns-then-or_all-le1 : goal.returns-then-or_all-le1
returns-then-or_all-le1 c =
    let s = c.args.s.now in
    sym (done_bits _ s (λ k h. omega (arith, or_above s _ k h, c.or_all.ensures, c.if-or_all-le1.true)))

pub returns-then-place-s : goal.returns-then-place-s
unfolding bits_answer
returns-then-place-s c = c.refused.ensures ∙ first_stop Bit _ _ _ _ c.first_no_bit-place.ensures c.if-place-s.true

pub returns : goal.returns
unfolding bits_answer
returns c = sym (first_go Bit _ _ _ _ c.first_no_bit-place.ensures c.if-place-s.false)
