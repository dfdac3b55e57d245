use Prim.Native.Nat.{ℕ, ◌+◌, ◌-◌, ◌%◌}
use mathlib.Core.Path.{ap₂, ◌∙◌}
use native.Mathlib.Omega.{arith}
use Rattle.kreyvium.proofs.Windows.{shown}
use Rattle.kreyvium.proofs.Words.taps.Goals as goal

pub returns : goal.returns
returns c =
    let n = c.args.n in
    let m = c.args.m in
    λ len i p q r h. c.windows.ensures i h ∙ ap₂ (λ (x y : ℕ). (x + y) % 2) (shown (n - 64) (n - 1) len i _ (omega arith) (omega arith) r h) (shown (m - 64) (m - 1) len i _ (omega arith) (omega arith) r h)
