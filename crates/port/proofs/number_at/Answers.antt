use Prim.Native.Nat.{◌<◌, ◌^◌}
use native.Mathlib.Omega.{arith}
use Rattle.port.proofs.Digits.{digits_none, digits_more}
use Rattle.port.proofs.Layouts.{read_small}
use Rattle.port.proofs.number_at.Goals.{In-loop-i}
use Rattle.port.proofs.number_at.Goals as goal

-- there is room for one bit more
narrow : (c : In-loop-i) → c.loop-i.x < 2 ^ 24
narrow c =
    rw c.loop-i.invariant (read_small c.args.s.now c.args.at c.loop-i.i 24 c.requires.held.bit (omega arith))

pub loop-i-init : goal.loop-i-init
loop-i-init c = digits_none 2 _ _

pub overflow_mul-x : goal.overflow_mul-x
overflow_mul-x c = omega (arith, narrow c)

pub overflow_add-x : goal.overflow_add-x
overflow_add-x c = omega (arith, narrow (goal.at.overflow_add-x c).In-loop-i)

pub loop-i-preserved : goal.loop-i-preserved
loop-i-preserved c =
    let a = c.args in
    rw c.from.ensures (digits_more 2 a.s.now a.at c.loop-i.i c.loop-i.x c.loop-i.invariant)
