use mathlib.Core.Path.{◌≡◌, refl, ap, ◌∙◌}
use mathlib.Core.List.{List}
use Prim.Native.Nat.{ℕ}
use lib.ListN.{take, drop}
use Rattle.answer.specs.Bits.{added}
use Rattle.answer.specs.Fronts.{over}
use Rattle.kreyvium.specs.Words.{tops}
use Rattle.kreyvium.specs.Kreyvium.{stream_of}
use Rattle.frames.specs.Inner.{iv_bits, key_two}
use Rattle.frames.proofs.Sealing.{frame_written}
use Rattle.frames.proofs.seal.put_frame.Goals as goal

pub returns : goal.returns
returns c =
    let a = c.args in
    let bits = key_two a.key in
    let v = iv_bits a.iv in
    let stream : tops 64 c.crossed-x.result ≡ added (take 64 (drop 0 a.«record».now)) (stream_of bits v 64) =
    c.crossed-x.ensures ∙ ap (λ (t : List ℕ). added t (stream_of bits v 64)) c.bit_word.ensures.1 in
    c.put_parts.ensures
    ∙ ap (λ (t : List ℕ). over t a.frame.now) (frame_written bits a.«record».now v _ c.requires.record_bits.size refl stream)
