use mathlib.Core.Path.{◌≡◌, ap, ◌∙◌}
use Rattle.port.specs.Bytes.{value_at}
use Prim.Native.Nat.{ℕ, ◌^◌, ◌<◌, ◌*◌}
use native.Mathlib.Omega.{arith}
use Rattle.port.proofs.Digits.{digits_none}
use Rattle.frames.proofs.Turned.{bits-tops}
use Rattle.frames.proofs.Spreading.{digits_eight, eight_room}
use Rattle.frames.proofs.bytes.bit_word.Goals.{In-loop-i}
use Rattle.frames.proofs.bytes.bit_word.Goals as goal

-- there is room for eight bits more
room : (c : In-loop-i) → c.loop-i.x < 2 ^ 56
room c =
    eight_room c.args.s.now c.args.at (8 * c.loop-i.i) c.loop-i.x c.requires.1 (omega arith) c.loop-i.invariant

pub loop-i-init : goal.loop-i-init
loop-i-init c = digits_none _ _ _

pub overflow_mul-x : goal.overflow_mul-x
overflow_mul-x c = omega (arith, room c)

pub overflow_add-x : goal.overflow_add-x
overflow_add-x c = omega (arith, room (goal.at.overflow_add-x c).In-loop-i, c.eight.ensures.1)

pub loop-i-preserved : goal.loop-i-preserved
loop-i-preserved c =
    let a = c.args in
    digits_eight a.s.now a.at c.loop-i.i c.loop-i.x _ c.loop-i.invariant c.eight.ensures.0

pub returns : goal.returns
returns c =
    let a = c.args in
    let e : c.loop-i.i ≡ 8 = omega arith in
    let x : c.loop-i.x ≡ value_at 2 a.s.now a.at 64 = c.loop-i.invariant ∙ ap (λ (i : ℕ). value_at 2 a.s.now a.at (8 * i)) e in
    (x, bits-tops a.s.now a.at _ x c.requires.1 c.requires.0)
