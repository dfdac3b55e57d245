-- Threshold netlists: depth and multiplications as the code computes them, and the words emitted.
use Prim.Native.Nat.{ℕ, ◌+◌, ◌-◌, ◌*◌, ◌≤◌, ◌<◌, max}
use mathlib.Core.Bool.{false}
use mathlib.Core.Path.{◌≡◌, sym, ap}
use mathlib.Core.List.{[]}
use native.Mathlib.Nat.{mul-le-mul_left}
use native.Mathlib.Omega.{arith}
use borrow.Author.Tests.{lt-ltb, le-ltb}
use lib.ListN.{length, replicate, length-replicate}
use lib.Seq.{get_or_at}
use Rattle.netlist.specs.Net.{depth, mults}
use Rattle.netlist.specs.Words.{words}
use Rattle.netlist.proofs.Puts.{words-length}
use Rattle.cells.specs.Cells.{threshold_net}
use Rattle.cells.proofs.Same.{threshold_net_zero}
use Rattle.cells.proofs.Facts.{threshold-depth, threshold-mults, threshold_gates_64, threshold_outputs}
use Rattle.emit.specs.Emit.{no_threshold}
use Rattle.emit.proofs.Shapes.{shape_good}

module _ (d n : ℕ) (ok : no_threshold d n ≡ false) where
  pub depth_none : n < d → 0 ≡ depth (threshold_net d n)
  depth_none h =
      let s = shape_good d n ok in
      let e : d ≡ n + 1 = omega arith in
      rw (e, threshold_net_zero n) (sym (ap (λ (x : ℕ). max x 0) (get_or_at (replicate n 0) 0 [] 0 n (length-replicate n 0))))

  pub depth-some : d ≤ n → n - 1 ≡ depth (threshold_net d n)
  depth-some h = sym (threshold-depth d n (shape_good d n ok).1 h)

  pub mults_none : n < d → 0 ≡ mults (threshold_net d n)
  mults_none h =
      let s = shape_good d n ok in
      let e : d ≡ n + 1 = omega arith in
      rw (e, threshold_net_zero n)

  pub mults_fewer : d < n → (d + 1) * (n - d + 1) - 2 - 1 ≡ mults (threshold_net d n)
  mults_fewer h = let e = threshold-mults d n (shape_good d n ok).1 (omega arith) in sym (rw (lt-ltb d n h) at e)

  pub mults-all : d ≤ n → n ≤ d → (d + 1) * (n - d + 1) - 2 ≡ mults (threshold_net d n)
  mults-all h k = let e = rw (le-ltb d n k) at (threshold-mults d n (shape_good d n ok).1 h) in omega arith

  -- the product is small, and not too small
  pub product_most : d ≤ n → (d + 1) * (n - d + 1) ≤ 4225
  product_most h =
      let s = shape_good d n ok in
      let t : n - d + 1 ≤ 65 = omega arith in
      omega (arith, mul-le-mul_left (d + 1) t)

  pub product_least : d ≤ n → 2 ≤ (d + 1) * (n - d + 1)
  product_least h =
      let s = shape_good d n ok in
      let t : 1 ≤ n - d + 1 = omega arith in
      omega (arith, mul-le-mul_left (d + 1) t)

  pub product-more : d < n → 4 ≤ (d + 1) * (n - d + 1)
  product-more h =
      let s = shape_good d n ok in
      let t : 2 ≤ n - d + 1 = omega arith in
      omega (arith, mul-le-mul_left (d + 1) t)

  pub words_most : length (words (threshold_net d n)) ≤ 17160
  words_most =
      let s = shape_good d n ok in
      omega (arith, words-length (threshold_net d n), threshold_outputs d n, threshold_gates_64 d n s.1 s.2 s.0)
