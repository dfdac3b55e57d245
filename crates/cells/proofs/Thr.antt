-- What the threshold part carries, over any algebra, over bits and over depths; that it sits; what it multiplies.
use mathlib.Core.Path.{◌≡◌, refl, ap, ◌∙◌}
use mathlib.Core.List.{List, [], ◌∷◌, ◌++◌, map}
use Prim.Native.Nat.{ℕ, zero, suc, ◌+◌, ◌-◌, ◌*◌, ◌≤◌, ◌<◌}
use native.Mathlib.Omega.{arith}
use lib.ListN.{length, length-map, replicate, length-replicate}
use Rattle.netlist.specs.Net.{Alg, at, run, Below, val_alg, dep_alg, muls_of}
use Rattle.netlist.specs.Part.{Carries, Sits}
use Rattle.netlist.proofs.Bits.{Bits}
use Rattle.netlist.proofs.Sim.{run_length}
use Rattle.filter.specs.Filter.{ones, threshold}
use Rattle.cells.specs.Cells.{threshold_part}
use Rattle.cells.specs.InnerLoop.{pos, down, cells}
use Rattle.cells.proofs.Same.{threshold-part_loop}
use Rattle.cells.proofs.Wiring.{end_sum, first_row, last_from, last_from-append, low_not, trace, trace_last', cells-run}
use Rattle.cells.proofs.Bits.{ge, weight-ones, ge_test, sum-ge-weight}
use Rattle.cells.proofs.Costs.{sum-depth, cells-mults}
use Rattle.cells.proofs.Placed.{cells_wired, length-cells}

module _ {X : Type 0} (A : Alg X) where
  -- what the threshold makes of what its wires carry
  unfoldable pub thr_of : ℕ → List X → X
  thr_of d [] = A.none
  thr_of d (x ∷ xs) = end_sum A (down (suc (length xs) - d)) (down d) (first_row A (suc (length xs) - d) d x) x xs

  last_at : (e : X) (env : List X) → at A (e ∷ env) (length env) ≡ last_from A e env
  last_at e [] = refl
  last_at e (y ∷ env) = last_at y env

  last_wire : (env : List X) (d : X) (w : ℕ) → suc w ≡ length env → at A env w ≡ last_from A d env
  last_wire [] d w h = absurd (omega arith)
  last_wire (e ∷ env) d w h = let q : w ≡ length env = omega arith in rw q (last_at e env)

  -- over two inputs or more the last gate carries the sum
  cells_carry : (v : List X) (d next x y : ℕ) (ys : List ℕ) → Below (length v) (x ∷ y ∷ ys) → next ≡ length v → 1 ≤ d → d ≤ suc (suc (length ys))
      → let G = cells (x ∷ y ∷ ys) (suc (suc (length ys)) - d) d next in Carries A v record { gates = G; out = next + length G - 1 } (thr_of d (map (at A v) (x ∷ y ∷ ys)))
  unfolding thr_of
  cells_carry v d next x y ys b n h1 h2 =
      let l = suc (suc (length ys)) - d in
      let G = cells (x ∷ y ∷ ys) l d next in
      let X0 = at A v x in
      let T = trace A (down l) (down d) (first_row A l d X0) X0 (map (at A v) (y ∷ ys)) in
      let e : run A v G ≡ (v ++ low_not A l X0) ++ T = cells-run A x (y ∷ ys) l d next v b.0 b.1 n (omega arith) in
      let r = run_length A v G in
      let some : 0 < length G = length-cells x y ys l d next in
      record {
        value = last_wire (run A v G) X0 (next + length G - 1) (omega arith)
            ∙ ap (last_from A X0) e
            ∙ last_from-append A (v ++ low_not A l X0) T X0
            ∙ trace_last' A (at A v y) (map (at A v) ys) (down l) (down d) (first_row A l d X0) X0 (last_from A X0 (v ++ low_not A l X0))
            ∙ rw (length-map ys (at A v));
        inside = omega arith;
      }

-- Over two wires or more, with d from 1 to their number.
module _ (d x y : ℕ) (ys : List ℕ) (h1 : 1 ≤ d) (h2 : d ≤ suc (suc (length ys))) where
  loop : (next : ℕ) → let G = cells (x ∷ y ∷ ys) (suc (suc (length ys)) - d) d next in
      threshold_part next d (x ∷ y ∷ ys) ≡ record { gates = G; out = next + length G - 1 }
  loop next = threshold-part_loop next d (x ∷ y ∷ ys) (omega arith) h1 h2

  pub thr_sits : (m : ℕ) → Below m (x ∷ y ∷ ys) → Sits m (threshold_part m d (x ∷ y ∷ ys))
  thr_sits m b =
      rw (loop m)
      record {
        wired = cells_wired x (y ∷ ys) (suc (suc (length ys)) - d) d m b.0 b.1 (omega arith);
        inside = omega (arith, length-cells x y ys (suc (suc (length ys)) - d) d m);
      }

  pub thr_any : {X : Type 0} (A : Alg X) (v : List X) (next : ℕ) → Below (length v) (x ∷ y ∷ ys) → next ≡ length v
      → Carries A v (threshold_part next d (x ∷ y ∷ ys)) (thr_of A d (map (at A v) (x ∷ y ∷ ys)))
  thr_any A v next b n = rw (loop next) (cells_carry A v d next x y ys b n h1 h2)

  pub thr_mults : (next : ℕ) → muls_of (threshold_part next d (x ∷ y ∷ ys)).gates + 2 + pos (suc (suc (length ys)) - d) ≡ (d + 1) * (suc (suc (length ys)) - d + 1)
  thr_mults next = rw (loop next) (go d h1 h2)
    where
      go : (d : ℕ) → 1 ≤ d → d ≤ suc (suc (length ys)) → muls_of (cells (x ∷ y ∷ ys) (suc (suc (length ys)) - d) d next) + 2 + pos (suc (suc (length ys)) - d) ≡ (d + 1) * (suc (suc (length ys)) - d + 1)
      go zero a b = absurd (omega arith)
      go (suc t) a b = cells-mults x y ys (suc (suc (length ys)) - suc t) t next (omega arith)

-- over bits: 1 exactly if at least d of them are 1
pub thr_bits : (d x : ℕ) (xs : List ℕ) → Bits (x ∷ xs) → 1 ≤ d → d ≤ suc (length xs) → thr_of val_alg d (x ∷ xs) ≡ threshold d (x ∷ xs)
unfolding thr_of threshold
thr_bits zero x xs b h1 h2 = absurd (omega arith)
thr_bits (suc t) x xs b h1 h2 =
    sum-ge-weight x xs (suc (length xs) - suc t) t (b 0) (λ i. b (suc i)) (omega arith) (omega arith)
    ∙ ap (ge (suc t)) (weight-ones (x ∷ xs) b) ∙ ge_test (suc t) (ones (x ∷ xs))

-- over inputs: one less than there are
pub thr_depth : (d k : ℕ) → 1 ≤ d → d ≤ suc k → thr_of dep_alg d (replicate (suc k) 0) ≡ k
unfolding thr_of
thr_depth zero k h1 h2 = absurd (omega arith)
thr_depth (suc t) k h1 h2 = rw (length-replicate {A = ℕ} k 0) (sum-depth k (suc k - suc t) t (omega arith))
