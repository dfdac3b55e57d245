use Prim.Native.Nat.{ℕ, suc, ◌+◌, ◌-◌, ◌≤◌, ◌<◌}
use mathlib.Core.Path.{◌≡◌, ap, sym, ◌∙◌}
use mathlib.Core.List.{List}
use native.Mathlib.Omega.{arith}
use lib.ListN.{set}
use lib.Seq.{sets}
use Rattle.netlist.specs.Glue.{up_from}
use Rattle.emit.proofs.put.put_wires.Goals as goal

start : (out : List ℕ) (i w n : ℕ) → sets out (i + 0) (up_from (w + 0) (n - 0)) ≡ sets out i (up_from w n)
start out i w n =
    let a : i + 0 ≡ i = omega arith in
    let b : w + 0 ≡ w = omega arith in
    let d : n - 0 ≡ n = omega arith in
    λ j. sets out (a j) (up_from (b j) (d j))

turn : (out : List ℕ) (i w n k : ℕ) → k < n → sets (set out (i + k) (w + k)) (i + (k + 1)) (up_from (w + (k + 1)) (n - (k + 1))) ≡ sets out (i + k) (up_from (w + k) (n - k))
turn out i w n k h =
    let a : i + (k + 1) ≡ suc (i + k) = omega arith in
    let b : w + (k + 1) ≡ suc (w + k) = omega arith in
    let d : n - k ≡ suc (n - (k + 1)) = omega arith in
    (λ j. sets (set out (i + k) (w + k)) (a j) (up_from (b j) (n - (k + 1)))) ∙ sym (ap (λ (m : ℕ). sets out (i + k) (up_from (w + k) m)) d)

end : (out : List ℕ) (i w n k : ℕ) → n ≤ k → out ≡ sets out (i + k) (up_from (w + k) (n - k))
end out i w n k h = let d : 0 ≡ n - k = omega arith in ap (λ (m : ℕ). sets out (i + k) (up_from (w + k) m)) d

pub loop-k-init : goal.loop-k-init
loop-k-init c = let a = c.args in start a.out.now a.at a.from a.n

pub loop-k-preserved : goal.loop-k-preserved
loop-k-preserved c = let a = c.args in turn c.loop-k.out a.at a.from a.n c.loop-k.k (omega arith) ∙ c.loop-k.invariant

pub returns : goal.returns
returns c = let a = c.args in end c.loop-k.out a.at a.from a.n c.loop-k.k (omega arith) ∙ c.loop-k.invariant
