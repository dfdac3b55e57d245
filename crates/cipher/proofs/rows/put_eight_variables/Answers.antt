use Prim.Native.Nat.{◌+◌, ◌%◌}
use mathlib.Core.Path.{◌≡◌, refl}
use native.Mathlib.Omega.{arith}
use lib.ListN.{get_or, take}
use Rattle.cipher.proofs.Variables.{written_none, written-more}
use borrow.Author.Rules.{rules}
use Rattle.cipher.proofs.rows.put_eight_variables.Goals as goal

pub loop-t-init : goal.loop-t-init
loop-t-init c = written_none (λ s. get_or c.args.some s 0 % 2) c.args.x.now c.args.i

pub loop-t-preserved : goal.loop-t-preserved
loop-t-preserved c =
    let a = c.args in
    let e : a.i + (c.loop-t.t + 1) ≡ a.i + c.loop-t.t + 1 = omega arith in
    rw e (written-more (λ s. get_or a.some s 0 % 2) (take a.i a.x.now) c.loop-t.x (a.i + c.loop-t.t) c.loop-t.t _ (search rules) refl c.loop-t.invariant)

pub returns : goal.returns
returns c =
    let e : c.loop-t.t ≡ 8 = omega arith in
    rw e at c.loop-t.invariant
