use mathlib.Core.Path.{ap, ap₂, ◌∙◌}
use mathlib.Core.List.{List, ◌++◌}
use Prim.Native.Nat.{ℕ}
use native.Mathlib.Omega.{arith}
use Rattle.answer.specs.Bits.{added}
use Rattle.kreyvium.specs.Words.{tops}
use Rattle.kreyvium.specs.Kreyvium.{stream_of}
use Rattle.frames.specs.Inner.{key_two}
use Rattle.frames.proofs.Turned.{tops-added}
use Rattle.frames.proofs.seal.Key.crossed.Goals as goal

pub returns : goal.returns
returns c =
    let a = c.args in
    tops-added a.x c.stream64.result
    ∙ ap (added (tops 64 a.x))
    (c.stream64.ensures 64 (omega arith)
    ∙ ap₂ (λ (v w : List ℕ). stream_of (key_two a.self) (v ++ w) 64) c.reversed.ensures c.reversed-2.ensures)
