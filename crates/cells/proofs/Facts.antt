-- The one-hot and the threshold netlists as wholes, for every n, d and inputs: what they compute, depth, multiplications,
-- validity, and how many gates there are at most.
use Prim.Native.Nat.{ℕ, zero, suc, ◌+◌, ◌-◌, ◌*◌, ◌/◌, ◌≤◌, ◌<◌, max}
use mathlib.Core.Path.{◌≡◌, refl, sym, ap, ap₂, ◌∙◌, subst}
use mathlib.Core.List.{List, [], ◌∷◌, ◌++◌, map, append_assoc}
use native.Mathlib.Nat.{mul-le-mul_left}
use native.Mathlib.Omega.{arith}
use borrow.Author.Tests.{lt-ltb, le-ltb, lt-leb}
use lib.ListN.{length, length-append, replicate, length-replicate}
use lib.Seq.{get_or_at}
use lib.Dec.{eqb, ltb}
use Rattle.answer.specs.Choose.{choose}
use Rattle.netlist.specs.declared.gate.Gate.{Gate}
use Rattle.netlist.specs.Net.{Net, Alg, at, run, outs_of, val_alg, eval, dep_alg, max_of, depth, mults, Below, Valid}
use Rattle.netlist.specs.Glue.{up_from}
use Rattle.netlist.proofs.Bits.{Bits}
use Rattle.netlist.proofs.Glued.{up_from-length, up_from-at, at_below}
use Rattle.netlist.proofs.Sim.{run_length, split}
use Rattle.filter.specs.Filter.{ones, threshold}
use Rattle.filter.proofs.Sums.{ones_le}
use Rattle.cells.specs.Cells.{wires_to, threshold_net, one_hot_net}
use Rattle.cells.specs.InnerLoop.{pos, cells}
use Rattle.cells.proofs.Bits.{same, hots, hots_snoc, weight, hot_first, end_row_lem, weight-ones, same_test}
use Rattle.cells.proofs.Costs.{cells-length, hot_mults}
use Rattle.cells.proofs.Placed.{cells_wired, length-cells}
use Rattle.cells.proofs.Same.{net_of_part, threshold_net_loop, threshold_net_zero, one_hot_loop}
use Rattle.cells.proofs.Samples.{one_of_one, one_hot_of_one, one_hot_of_none}
use Rattle.cells.proofs.Wiring.{low_not, first_row, trace, trace-row, cells-run}
use Rattle.cells.proofs.Thr.{thr_of, thr_any, thr_sits, thr_mults, thr_bits, thr_depth}

-- wires 0 .. n - 1 are the inputs
inputs_after : {X : Type 0} (A : Alg X) (p v : List X) (k : ℕ) → k ≡ length p → map (at A (p ++ v)) (up_from k (length v)) ≡ v
inputs_after A p [] k e = refl
inputs_after A p (x ∷ v) k e =
    ap₂ ◌∷◌ (get_or_at p x v A.none k (sym e))
    (ap (λ (q : List _). map (at A q) (up_from (suc k) (length v))) (sym (append_assoc p (x ∷ []) v)) ∙ inputs_after A (p ++ x ∷ []) v (suc k) (omega (arith, length-append p (x ∷ []))))

inputs_below : (n : ℕ) → Below n (up_from 0 n)
inputs_below n = at_below n (up_from 0 n) (λ i h. omega (arith, up_from-length 0 n, up_from-at 0 n i (omega (arith, up_from-length 0 n))))

one_input : {X : Type 0} (A : Alg X) (x : X) → x ∷ [] ≡ thr_of A 1 (x ∷ []) ∷ []
unfolding thr_of
one_input A x = refl

-- over any algebra
pub threshold_any : {X : Type 0} (A : Alg X) (d n : ℕ) (v : List X) → length v ≡ n → 1 ≤ d → d ≤ n → outs_of A (threshold_net d n) v ≡ thr_of A d v ∷ []
threshold_any A d zero v e h1 h2 = absurd (omega arith)
threshold_any A d (suc zero) [] e h1 h2 = absurd (omega arith)
threshold_any A d (suc zero) (x ∷ y ∷ v) e h1 h2 = absurd (omega arith)
threshold_any A d (suc zero) (x ∷ []) e h1 h2 = let z : d ≡ 1 = omega arith in rw (z, one_of_one) (one_input A x)
threshold_any {X} A d (suc (suc k)) v e h1 h2 =
    let n = suc (suc k) in
    let c = thr_any d 0 1 (up_from 2 k) h1 (omega (arith, up_from-length 2 k)) A v n (let P : ℕ → Type 0 = λ m. Below m (up_from 0 n) in subst P (sym e) (inputs_below n)) (sym e) in
    ap (λ (m : Net). outs_of A m v) (net_of_part d n)
    ∙ ap (λ (y : X). y ∷ []) (c.value ∙ ap (thr_of A d) (ap (λ (i : ℕ). map (at A v) (up_from 0 i)) (sym e) ∙ inputs_after A [] v 0 refl))

-- d from 1 to n + 1: up to n, or n + 1
by_case : (d n : ℕ) {P : Type 0} → d ≤ n + 1 → (d ≤ n → P) → (d ≡ n + 1 → P) → P
by_case d n h f g = split d (suc n) (λ k. f (omega arith)) (λ k. g (omega arith))

few_ones : (d : ℕ) (xs : List ℕ) → length xs < d → threshold d xs ≡ 0
unfolding threshold
few_ones d xs h = rw (lt-leb d (ones xs) (omega (arith, ones_le xs)))

-- 1 exactly if at least d of the inputs are 1
pub threshold_right : (d n : ℕ) (xs : List ℕ) → length xs ≡ n → Bits xs → 1 ≤ d → d ≤ n + 1 → eval (threshold_net d n) xs ≡ threshold d xs ∷ []
threshold_right d n xs e b h1 h2 =
    by_case d n h2
    (λ h. threshold_any val_alg d n xs e h1 h ∙ ap (λ (y : ℕ). y ∷ []) (bits_are xs e b h))
    (λ h. rw (h, threshold_net_zero n) (ap (λ (y : ℕ). y ∷ []) (get_or_at xs 0 [] 0 n e ∙ sym (few_ones (n + 1) xs (omega arith)))))
  where
    bits_are : (xs : List ℕ) → length xs ≡ n → Bits xs → d ≤ n → thr_of val_alg d xs ≡ threshold d xs
    bits_are [] e b h = absurd (omega arith)
    bits_are (x ∷ xs) e b h = thr_bits d x xs b h1 (omega arith)

pub threshold_inputs : (d n : ℕ) → (threshold_net d n).inputs ≡ n
unfolding threshold_net
threshold_inputs d n = refl

pub threshold_outputs : (d n : ℕ) → length (threshold_net d n).outs ≡ 1
unfolding threshold_net
threshold_outputs d n = refl

pub threshold-depth : (d n : ℕ) → 1 ≤ d → d ≤ n → depth (threshold_net d n) ≡ n - 1
threshold-depth d zero h1 h2 = absurd (omega arith)
threshold-depth d (suc k) h1 h2 =
    let n = suc k in
    let z : max k 0 ≡ n - 1 = omega arith in
    ap (λ (i : ℕ). max_of (outs_of dep_alg (threshold_net d n) (replicate i 0))) (threshold_inputs d n)
    ∙ ap max_of (threshold_any dep_alg d n (replicate n 0) (length-replicate n 0) h1 h2)
    ∙ ap (λ (y : ℕ). max y 0) (thr_depth d k h1 h2) ∙ z

-- (d + 1)(n - d + 1) - 2, and one fewer if d < n
pub threshold-mults : (d n : ℕ) → 1 ≤ d → d ≤ n → mults (threshold_net d n) ≡ (d + 1) * (n - d + 1) - 2 - choose (ltb d n) 1 0
threshold-mults d zero h1 h2 = absurd (omega arith)
threshold-mults d (suc zero) h1 h2 = let z : d ≡ 1 = omega arith in rw (z, one_of_one) refl
threshold-mults d (suc (suc k)) h1 h2 =
    let n = suc (suc k) in
    let l = up_from-length 2 k in
    let c = rw l at (thr_mults d 0 1 (up_from 2 k) h1 (omega arith) n) in
    rw (net_of_part d n, ← (fewer d n h2)) (omega arith)
  where
    fewer : (d n : ℕ) → d ≤ n → pos (n - d) ≡ choose (ltb d n) 1 0
    fewer d n h = split d n (λ k. rw (lt-ltb d n k) (some (n - d) (omega arith))) (λ k. rw (le-ltb d n k) (none (n - d) (omega arith)))
      where
        some : (i : ℕ) → 0 < i → pos i ≡ 1
        some zero h = absurd (omega arith)
        some (suc i) h = refl

        none : (i : ℕ) → i ≡ 0 → pos i ≡ 0
        none zero h = refl
        none (suc i) h = absurd (omega arith)

pub threshold_valid : (d n : ℕ) → 1 ≤ d → d ≤ n + 1 → Valid (threshold_net d n)
threshold_valid d n h1 h2 =
    by_case d n h2 (some n)
    (λ h. rw (h, threshold_net_zero n) record { wired = (tt, tt); outs = (omega arith, tt) })
  where
    some : (n : ℕ) → d ≤ n → Valid (threshold_net d n)
    some zero h = absurd (omega arith)
    some (suc zero) h = let z : d ≡ 1 = omega arith in rw (z, one_of_one) record { wired = tt; outs = (omega arith, tt) }
    some (suc (suc k)) h =
        let n = suc (suc k) in
        let s = thr_sits d 0 1 (up_from 2 k) h1 (omega (arith, up_from-length 2 k)) n (inputs_below n) in
        rw (net_of_part d n) record { wired = s.wired; outs = (s.inside, tt) }

-- gates: a row a level
cells_most : (ws : List ℕ) (n l h next : ℕ) → length ws ≡ n → length (cells ws l h next) ≤ n * (n + 3) + 1
cells_most [] n l h next e = omega arith
cells_most (x ∷ xs) n l h next e =
    let z : suc (length xs) * (length xs + 4) ≡ n * (n + 3) = rw (← e) (omega arith) in
    omega (arith, cells-length x xs l h next)

pub threshold_gates_most : (d n : ℕ) → 1 ≤ d → d ≤ n + 1 → length (threshold_net d n).gates ≤ n * (n + 3) + 1
threshold_gates_most d n h1 h2 =
    by_case d n h2
    (λ h. rw (threshold_net_loop d n h1 h) (cells_most (up_from 0 n) n (n - d) d n (up_from-length 0 n)))
    (λ h. rw (h, threshold_net_zero n) (omega arith))

most_64 : (n g : ℕ) → n ≤ 64 → g ≤ n * (n + 3) + 1 → g ≤ 4289
most_64 n g h e = let t : n + 3 ≤ 67 = omega arith in omega (arith, mul-le-mul_left n t)

pub threshold_gates_64 : (d n : ℕ) → 1 ≤ d → d ≤ n + 1 → n ≤ 64 → length (threshold_net d n).gates ≤ 4289
threshold_gates_64 d n h1 h2 h = most_64 n _ h (threshold_gates_most d n h1 h2)

-- One-hot.
hot_run : (x y : ℕ) (ys : List ℕ) → let n = suc (suc (length ys)) in Bits (x ∷ y ∷ ys)
    → (pre : List ℕ) × (run val_alg (x ∷ y ∷ ys) (cells (up_from 0 n) n (suc n) n) ≡ pre ++ hots 0 (weight (x ∷ y ∷ ys)) (suc n))
hot_run x y ys b =
    let k = length ys in
    let n = suc (suc k) in
    let v = x ∷ y ∷ ys in
    let r = first_row val_alg n (suc n) x in
    let q = cells-run val_alg 0 (up_from 1 (suc k)) n (suc n) n v (omega arith) (inputs_below n).1 refl (omega (arith, up_from-length 1 (suc k))) in
    let u = inputs_after val_alg (x ∷ []) (y ∷ ys) 1 refl in
    let i = trace-row val_alg ys (suc k) n r x y (omega arith) in
    let c = hot_first x (suc k) n n (b 0) (omega arith) in
    let e = end_row_lem (y ∷ ys) (suc k) n 1 x r (λ i. b (suc i)) c (omega arith) (omega arith) (c.row_is (omega arith)) in
    let f = v ++ low_not val_alg n x in
    let z : 2 + suc k ≡ suc n = omega arith in (
      f ++ i.0,
      q ∙ ap (λ (w : List ℕ). f ++ trace val_alg (suc k) n r x w) u
          ∙ ap (λ (w : List ℕ). f ++ w) (i.1 ∙ ap (λ (w : List ℕ). i.0 ++ w) (e ∙ ap (hots 0 (x + weight (y ∷ ys))) z))
          ∙ sym (append_assoc f i.0 (hots 0 (x + weight (y ∷ ys)) (suc n))),
    )

length-hots : (j w m : ℕ) → length (hots j w m) ≡ m
length-hots j w zero = refl
length-hots j w (suc m) = ap suc (length-hots (suc j) w m)

hots_to : (n w : ℕ) → hots 0 w (suc n) ≡ wires_to n (λ j. choose (eqb j w) 1 0)
hots_to zero w = ap (λ (y : ℕ). y ∷ []) (same_test 0 w)
hots_to (suc n) w =
    let z : 0 + suc n ≡ suc n = omega arith in
    sym (hots_snoc (suc n) 0 w)
    ∙ ap₂ (λ (r : List ℕ) (y : ℕ). r ++ y ∷ []) (hots_to n w) (ap (λ (i : ℕ). same i w) z ∙ same_test (suc n) w)

loop_as : (n h : ℕ) → 2 ≤ n → h ≡ n + 1 → one_hot_net n ≡ record { inputs = n; gates = cells (up_from 0 n) n h n; outs = up_from (length (cells (up_from 0 n) n h n) - 1) h }
loop_as n h k e = rw e (one_hot_loop n k)

loop_net : (k : ℕ) → let n = suc (suc k) in let G = cells (up_from 0 n) n (suc n) n in
    one_hot_net n ≡ record { inputs = n; gates = G; outs = up_from (length G - 1) (suc n) }
loop_net k = loop_as (suc (suc k)) (suc (suc (suc k))) (omega arith) (omega arith)

-- wires that stand at the end
last_wires : (env pre H : List ℕ) (w m : ℕ) → env ≡ pre ++ H → length H ≡ m → w + m ≡ length env → map (at val_alg env) (up_from w m) ≡ H
last_wires env pre H w m e l q =
    rw (e, ← l) (inputs_after val_alg pre H w (omega (arith, ap length e, length-append pre H)))

hot_values : (n : ℕ) (xs : List ℕ) → length xs ≡ n → Bits xs → eval (one_hot_net n) xs ≡ hots 0 (weight xs) (suc n)
hot_values zero [] e b = rw one_hot_of_none
hot_values zero (x ∷ xs) e b = absurd (omega arith)
hot_values (suc n) [] e b = absurd (omega arith)
hot_values (suc zero) (zero ∷ []) e b = rw one_hot_of_one
hot_values (suc zero) (suc zero ∷ []) e b = rw one_hot_of_one
hot_values (suc zero) (suc (suc x) ∷ []) e b = absurd (omega (arith, b 0))
hot_values (suc zero) (x ∷ y ∷ xs) e b = absurd (omega arith)
hot_values (suc (suc n)) (x ∷ []) e b = absurd (omega arith)
hot_values (suc (suc k)) (x ∷ y ∷ ys) e b =
    let z : k ≡ length ys = omega arith in
    rw z (go (hot_run x y ys b))
  where
    n : ℕ
    n = suc (suc (length ys))

    G : List Gate
    G = cells (up_from 0 n) n (suc n) n

    go : (pre : List ℕ) × (run val_alg (x ∷ y ∷ ys) G ≡ pre ++ hots 0 (weight (x ∷ y ∷ ys)) (suc n)) → eval (one_hot_net n) (x ∷ y ∷ ys) ≡ hots 0 (weight (x ∷ y ∷ ys)) (suc n)
    go r =
        ap (λ (m : Net). eval m (x ∷ y ∷ ys)) (loop_net (length ys))
        ∙ last_wires (run val_alg (x ∷ y ∷ ys) G) r.0 (hots 0 (weight (x ∷ y ∷ ys)) (suc n)) (length G - 1) (suc n) r.1 (length-hots 0 (weight (x ∷ y ∷ ys)) (suc n))
        (omega (arith, run_length val_alg (x ∷ y ∷ ys) G, length-cells 0 1 (up_from 2 (length ys)) n (suc n) n))

-- n + 1 outputs: 1 at the number of inputs that are 1, and 0 elsewhere
pub one_hot_right : (n : ℕ) (xs : List ℕ) → length xs ≡ n → Bits xs → eval (one_hot_net n) xs ≡ wires_to n (λ j. choose (eqb j (ones xs)) 1 0)
one_hot_right n xs e b =
    hot_values n xs e b ∙ ap (λ (w : ℕ). hots 0 w (suc n)) (weight-ones xs b) ∙ hots_to n (ones xs)

pub one_hot_inputs : (n : ℕ) → (one_hot_net n).inputs ≡ n
one_hot_inputs zero = rw one_hot_of_none
one_hot_inputs (suc zero) = rw one_hot_of_one
one_hot_inputs (suc (suc k)) = rw (loop_net k)

pub one_hot_outputs : (n : ℕ) → length (one_hot_net n).outs ≡ n + 1
one_hot_outputs zero = rw one_hot_of_none
one_hot_outputs (suc zero) = rw one_hot_of_one
one_hot_outputs (suc (suc k)) = rw (loop_net k) (up_from-length _ (suc (suc (suc k))) ∙ omega arith)

pub one_hot_mults : (n : ℕ) → 1 ≤ n → mults (one_hot_net n) ≡ 2 * (n - 1) + n * (n - 1) / 2
one_hot_mults zero h = absurd (omega arith)
one_hot_mults (suc zero) h = rw one_hot_of_one
one_hot_mults (suc (suc k)) h =
    let n = suc (suc k) in
    let z : n - 1 ≡ suc k = omega arith in
    rw (loop_net k, z) (hot_mults 0 (up_from 1 (suc k)) n (suc k) (up_from-length 1 (suc k)))

pub one_hot_valid : (n : ℕ) → Valid (one_hot_net n)
one_hot_valid zero = rw one_hot_of_none record { wired = (tt, tt); outs = (omega arith, tt) }
one_hot_valid (suc zero) = rw one_hot_of_one record { wired = (omega arith, tt); outs = (omega arith, (omega arith, tt)) }
one_hot_valid (suc (suc k)) =
    let n = suc (suc k) in
    let G = cells (up_from 0 n) n (suc n) n in
    let some = length-cells 0 1 (up_from 2 k) n (suc n) n in
    rw (loop_net k)
    record {
      wired = cells_wired 0 (up_from 1 (suc k)) n (suc n) n (omega arith) (inputs_below n).1 (omega (arith, up_from-length 1 (suc k)));
      outs = at_below _ (up_from (length G - 1) (suc n))
          (λ i h. let h' : i < suc n = omega (arith, up_from-length (length G - 1) (suc n)) in omega (arith, up_from-at (length G - 1) (suc n) i h'));
    }

pub one_hot_gates_most : (n : ℕ) → length (one_hot_net n).gates ≤ n * (n + 3) + 1
one_hot_gates_most zero = rw one_hot_of_none (omega arith)
one_hot_gates_most (suc zero) = rw one_hot_of_one (omega arith)
one_hot_gates_most (suc (suc k)) = rw (loop_net k) (let n = suc (suc k) in cells_most (up_from 0 n) n n (suc n) n (up_from-length 0 n))

pub one_hot_gates_64 : (n : ℕ) → n ≤ 64 → length (one_hot_net n).gates ≤ 4289
one_hot_gates_64 n h = most_64 n _ h (one_hot_gates_most n)
