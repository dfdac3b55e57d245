use native.Mathlib.Omega.{arith}
use lib.ListN.{take}
use Rattle.kreyvium.specs.Words.{tops}
use mathlib.Core.Path.{◌≡◌, ap, ◌∙◌}
use mathlib.Core.List.{List}
use Prim.Native.Nat.{ℕ, ◌*◌}
use Rattle.answer.specs.Fronts.{over}
use Rattle.frames.proofs.Turned.{bit_bytes, eight_none, eight_more, eight_all}
use borrow.Author.Rules.{rules}
use Rattle.frames.proofs.bytes.put_bits.Goals as goal

pub loop-i-init : goal.loop-i-init
loop-i-init c = eight_none c.args.x _

pub loop-i-preserved : goal.loop-i-preserved
loop-i-preserved c =
    eight_more c.args.x c.loop-i.i c.args.out.now (search rules) c.requires c.loop-i.invariant
    (c.copy_from_slice.ensures.after ∙ bit_bytes c.args.x c.loop-i.i (search rules) c.spread-bits.ensures)

pub returns : goal.returns
returns c =
    let e : c.loop-i.i ≡ 8 = omega arith in
    c.loop-i.invariant
    ∙ ap (λ (i : ℕ). over (take (8 * i) (tops 64 c.args.x)) c.args.out.now) e
    ∙ ap (λ (t : List ℕ). over t c.args.out.now) (eight_all c.args.x)
