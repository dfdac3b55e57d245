use Prim.Native.Nat.{ℕ, ◌+◌, ◌<◌}
use mathlib.Core.Path.{◌≡◌, sym, ap, ap₂, ◌∙◌}
use mathlib.Core.List.{◌++◌}
use native.Mathlib.Omega.{arith}
use lib.ListN.{get_or}
use Rattle.port.specs.Bytes.{unpacked}
use Rattle.sequence.specs.Files.{start}
use Rattle.sequence.proofs.Judged.{word_there, iv_read}
use Rattle.frames.proofs.Turned.{bytes_tops}
use Rattle.frames.proofs.Sealing.{unpacked_halves}
use Rattle.frames.proofs.iv.Iv.in_frame.Goals as goal

pub returns : goal.returns
returns c =
    let s = c.args.s.now in
    let p = start c.args.k in
    let known = c.type_inv.s in
    let small : (i : ℕ) → get_or s i 0 < 256 = λ i. omega (arith, known i) in
    let q : p + 2 + 8 ≡ p + 10 = omega arith in
    record {
      bits = ap₂ ◌++◌ (bytes_tops s (p + 2) _ c.word.ensures (omega arith) (λ k g. small (p + 2 + k)))
          (bytes_tops s (p + 10) _ c.word-2.ensures (omega arith) (λ k g. small (p + 10 + k)) ∙ ap (λ (j : ℕ). unpacked s j 64) (sym q))
          ∙ sym (unpacked_halves s (p + 2));
      number = iv_read s c.args.k (c.word.ensures ∙ word_there s (p + 2) (omega arith)) (c.word-2.ensures ∙ word_there s (p + 10) (omega arith));
    }
