use Prim.Native.Nat.{ℕ, ◌+◌, ◌<◌}
use mathlib.Core.Path.{◌≡◌, refl, sym, ap, ◌∙◌}
use mathlib.Core.List.{List}
use native.Mathlib.Omega.{arith}
use lib.ListN.{length, get_or, set, drop, length-set}
use lib.Seq.{sets}
use Rattle.netlist.proofs.Puts.{copy_turn, copy_end}
use Rattle.path.proofs.write.put_bytes.Goals as goal

none : (out from : List ℕ) (at : ℕ) → sets out (at + 0) (drop 0 from) ≡ sets out at from
none out from at = let e : at + 0 ≡ at = omega arith in ap (λ (i : ℕ). sets out i from) e

turn : (out from : List ℕ) (at j : ℕ) → j < length from
    → sets (set out (at + j) (get_or from j 0)) (at + (j + 1)) (drop (j + 1) from) ≡ sets out (at + j) (drop j from)
turn out from at j h =
    let e : at + (j + 1) ≡ at + j + 1 = omega arith in
    ap (λ (i : ℕ). sets (set out (at + j) (get_or from j 0)) i (drop (j + 1) from)) e ∙ copy_turn out from (at + j) j h

pub loop-i-init : goal.loop-i-init
loop-i-init c = (none c.args.out.now c.args.from.now c.args.at, refl)

pub loop-i-preserved : goal.loop-i-preserved
loop-i-preserved c =
    (turn _ _ _ _ c.loop-i-test.true ∙ c.loop-i.invariant.0, simp length-set c.loop-i.invariant.1)

pub returns : goal.returns
returns c = sym (copy_end _ _ _ _ c.loop-i-test.false) ∙ c.loop-i.invariant.0
