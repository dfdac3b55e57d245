use Prim.Native.Nat.{ℕ, ◌+◌, ◌*◌}
use mathlib.Core.Path.{◌≡◌, ap, ◌∙◌}
use native.Mathlib.Omega.{arith}
use native.Mathlib.Numerals.{add-one}
use Rattle.kreyvium.specs.Words.{tops}
use Rattle.port.specs.Bytes.{unpacked}
use Rattle.port.proofs.Parts.{wrote_part}
use Rattle.sequence.specs.Files.{start, frames_in}
use Rattle.frames.specs.Frames.{records_in}
use Rattle.answer.specs.Fronts.{over}
use Rattle.frames.specs.Inner.{key_two}
use Rattle.frames.proofs.Turned.{bytes_tops}
use Rattle.frames.proofs.Sealing.{records_none, records_more, record_read}
use Rattle.frames.proofs.seal.put_records.Goals as goal

pub loop-i-init : goal.loop-i-init
loop-i-init c = records_none _ _ _

pub loop-i-preserved : goal.loop-i-preserved
loop-i-preserved c =
    let a = c.args in
    let bits = key_two a.key in
    let file = a.file.now in
    let n = c.loop-i.i in
    let known = c.type_inv.file in
    let word : tops 64 c.word.result ≡ unpacked file (start n + 18) 64 = bytes_tops file (start n + 18) _ c.word.ensures (omega (arith, c.requires.whole.size)) (λ k g. omega (arith, known (start n + 18 + k))) in
    let x = record_read bits file n _ _ c.in_frame-v.ensures.bits word c.crossed-x.ensures in
    rw (add-one n) (records_more bits file a.records.now n _ x c.loop-i.invariant (wrote_part (64 * n) c.loop-i.records _ (omega (arith, c.requires.whole.size)) c.put_bits.ensures))

pub returns : goal.returns
returns c =
    let a = c.args in
    let e : c.loop-i.i ≡ frames_in a.file.now = omega (arith, c.requires.whole.size) in
    c.loop-i.invariant ∙ ap (λ (n : ℕ). over (records_in (key_two a.key) a.file.now n) a.records.now) e
