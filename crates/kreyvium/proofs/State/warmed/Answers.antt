use Prim.Native.Nat.{ℕ, ◌*◌}
use mathlib.Core.Path.{◌≡◌, ◌∙◌, ap}
use native.Mathlib.Omega.{arith}
use Rattle.kreyvium.specs.Kreyvium.{rounds}
use Rattle.kreyvium.specs.Words.{state_of}
use Rattle.kreyvium.proofs.Streams.{rounds_none, blocks_more}
use Rattle.kreyvium.proofs.State.warmed.Goals as goal

pub loop-init : goal.loop-init
loop-init c = rounds_none _

pub loop-preserved : goal.loop-preserved
loop-preserved c =
    c.rounds64-s.ensures ∙ ap (rounds 64) (c.rounds64-t.ensures ∙ ap (rounds 64) c.loop.invariant) ∙ blocks_more _ _

pub returns : goal.returns
returns c =
    let e : c.loop.counter ≡ 9 = omega arith in
    c.loop.invariant ∙ ap (λ (n : ℕ). rounds (128 * n) (state_of c.args.self)) e
