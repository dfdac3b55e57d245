use Prim.Native.Nat.{ℕ, suc, ◌+◌}
use mathlib.Core.Path.{◌≡◌, refl, ap, ap₂, ◌∙◌}
use mathlib.Core.List.{List, ◌++◌}
use lib.ListN.{length, length-append}
use Rattle.answer.specs.Fronts.{over}
use Rattle.kreyvium.specs.Words.{tops}
use Rattle.port.specs.Bytes.{packed}
use Rattle.frames.specs.Inner.{mark_bytes}
use Rattle.port.proofs.Parts.{put_after}
use Rattle.frames.proofs.Sealing.{packed-length, packed_words}
use borrow.Author.Rules.{rules}
use Rattle.frames.proofs.seal.put_parts.Goals as goal

pub returns : goal.returns
returns c =
    let a = c.args in
    let old = a.out.now in
    let w0 = packed 8 (tops 64 a.iv.high) in
    let w1 = packed 8 (tops 64 a.iv.low) in
    let l0 : length (mark_bytes ++ w0) ≡ 10 = ap (λ (n : ℕ). suc (suc n)) (packed-length 8 _) in
    let l1 : length (mark_bytes ++ w0 ++ w1) ≡ 18 = length-append (mark_bytes ++ w0) w1 ∙ ap₂ ◌+◌ l0 (packed-length 8 _) in
    put_after (mark_bytes ++ w0 ++ w1) _ old 18 l1 (search rules)
    (put_after (mark_bytes ++ w0) _ old 10 l0 (search rules) (put_after mark_bytes _ old 2 refl (search rules) c.put_mark.ensures c.put_word.ensures) c.put_word-2.ensures)
    c.put_word-3.ensures
    ∙ ap (λ (w : List ℕ). over (mark_bytes ++ w ++ packed 8 (tops 64 a.x)) old) (packed_words a.iv.high a.iv.low)
