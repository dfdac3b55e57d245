use mathlib.Core.Path.{◌≡◌, ◌∙◌, ap, subst}
use Prim.Native.Nat.{ℕ, ◌^◌, ◌≤◌, ◌<◌}
use native.Mathlib.Omega.{arith}
use Rattle.kreyvium.specs.Kreyvium.{out_of, round_of, rounds}
use Rattle.kreyvium.specs.Words.{state_of}
use Rattle.kreyvium.proofs.Streams.{rounds_none, out_small}
use Rattle.vectors.proofs.Drawing.{turn_room, turn_small, rounds-more, Drawn, drawn_none, drawn_more, drawn_all}
use borrow.Author.Rules.{rules}
use Rattle.vectors.proofs.round_by_round.outputs.Goals.{After-from, In-loop-i}
use Rattle.vectors.proofs.round_by_round.outputs.Goals as goal

room : (c : In-loop-i) → c.loop-i.z < 2 ^ 63
room c = turn_room _ c.loop-i.i (search rules) c.loop-i.invariant.0

drawn : (c : After-from) → c.from.result ≡ out_of (rounds c.loop-i.i (state_of c.args.s))
drawn c = c.from.ensures ∙ c.output.ensures ∙ ap out_of c.loop-i.invariant.1

small : (c : After-from) → c.from.result ≤ 1
small c = rw (drawn c) (out_small _)

pub loop-i-init : goal.loop-i-init
loop-i-init c = (search rules, rounds_none _, drawn_none _)

pub overflow_mul-z : goal.overflow_mul-z
overflow_mul-z c = omega (arith, room c)

pub overflow_add-z : goal.overflow_add-z
overflow_add-z c = omega (arith, room (goal.at.overflow_add-z c).In-loop-i, small c)

pub loop-i-preserved : goal.loop-i-preserved
loop-i-preserved c = (
  turn_small c.loop-i.z _ c.loop-i.i c.loop-i.invariant.0 (small (goal.at.loop-i-preserved c).After-from),
  c.round-t.ensures ∙ ap round_of c.loop-i.invariant.1 ∙ rounds-more _ _,
  drawn_more _ _ _ _ (drawn (goal.at.loop-i-preserved c).After-from) c.loop-i.invariant.2,
)

pub returns : goal.returns
returns c =
    let e : c.loop-i.i ≡ 64 = omega arith in
    drawn_all _ _ (subst (λ (n : ℕ). Drawn n c.loop-i.z (state_of c.args.s)) e c.loop-i.invariant.2)
