use mathlib.Core.Path.{◌≡◌, ◌∙◌, ap}
use Prim.Native.Nat.{ℕ}
use native.Mathlib.Omega.{arith}
use Rattle.kreyvium.specs.Kreyvium.{round_of, rounds}
use Rattle.kreyvium.specs.Words.{state_of}
use Rattle.kreyvium.proofs.Streams.{rounds_none}
use Rattle.vectors.proofs.Drawing.{rounds-more}
use Rattle.vectors.proofs.round_by_round.warmed.Goals as goal

pub loop-i-init : goal.loop-i-init
loop-i-init c = rounds_none _

pub loop-i-preserved : goal.loop-i-preserved
loop-i-preserved c = c.round-t.ensures ∙ ap round_of c.loop-i.invariant ∙ rounds-more _ _

pub returns : goal.returns
returns c =
    let e : c.loop-i.i ≡ 1152 = omega arith in
    c.loop-i.invariant ∙ ap (λ (n : ℕ). rounds n (state_of c.args.s)) e
