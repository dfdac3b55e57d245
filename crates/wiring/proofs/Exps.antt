-- What an emitted expression carries, over any algebra; that it sits; its multiplications, its gates and its depth.
use Prim.Native.Nat.{ℕ, suc, ◌+◌, ◌-◌, ◌*◌, ◌<◌, ◌≤◌, max}
use mathlib.Core.Path.{◌≡◌, refl, ap, ap₂, ◌∙◌}
use mathlib.Core.List.{List, [], ◌∷◌, map}
use native.Mathlib.Omega.{arith}
use lib.ListN.{length, replicate}
use Rattle.netlist.specs.declared.gate.Gate.{Gate}
use Rattle.netlist.specs.declared.gate.Gate.TheVariants.{Xor, And}
use Rattle.netlist.specs.Net.{Alg, at, run, dep_alg, muls_of, Below}
use Rattle.netlist.specs.Part.{Part, past, input, join, Carries, Sits}
use Rattle.netlist.proofs.Sim.{run_length, run_keeps}
use Rattle.netlist.proofs.Glued.{muls-append}
use Rattle.netlist.proofs.Parts.{length-join, input_carries, join_carries, input_sits, join_sits}
use Rattle.cells.specs.Cells.{threshold_part}
use Rattle.cells.proofs.Thr.{thr_of, thr_any, thr_sits, thr_mults, thr_depth}
use Rattle.wiring.specs.Exp.{Exp, wire, sum, times, least, emit}
use Rattle.wiring.proofs.Tally.{muls, deep, size}
use Rattle.wiring.proofs.Counts.{threshold_gates}

abbrev pub All : {X : Type 0} → (X → Type 0) → List X → Type 0
All P [] = Unit {0}
All P (x ∷ xs) = P x × All P xs

pub all_map : {X : Type 0} {P Q : X → Type 0} (xs : List X) → ((x : X) → P x → Q x) → All P xs → All Q xs
all_map [] f a = tt
all_map (x ∷ xs) f a = (f x a.0, all_map xs f a.1)

pub record Least (d : ℕ) (ws : List ℕ) (P : ℕ → Type 0) : Type 0 where
  pub two : 2 ≤ length ws
  pub some : 1 ≤ d
  pub most : d ≤ length ws
  pub all : All P ws

-- P holds of each wire, and each threshold has two wires or more and a number in their range
abbrev pub Over : (ℕ → Type 0) → Exp → Type 0
Over P (wire w) = P w
Over P (sum a b) = Over P a × Over P b
Over P (times a b) = Over P a × Over P b
Over P (least d ws) = Least d ws P

pub over-map : {P Q : ℕ → Type 0} (e : Exp) → ((w : ℕ) → P w → Q w) → Over P e → Over Q e
over-map (wire w) f o = f w o
over-map (sum a b) f o = (over-map a f o.0, over-map b f o.1)
over-map (times a b) f o = (over-map a f o.0, over-map b f o.1)
over-map (least d ws) f o = record { two = o.two; some = o.some; most = o.most; all = all_map ws f o.all }

below_all : (m : ℕ) (ws : List ℕ) → All (λ w. w < m) ws → Below m ws
below_all m [] a = tt
below_all m (x ∷ ws) a = (a.0, below_all m ws a.1)

module _ {X : Type 0} (A : Alg X) where
  unfoldable pub carried : List X → Exp → X
  carried v (wire w) = at A v w
  carried v (sum a b) = A.xor (carried v a) (carried v b)
  carried v (times a b) = A.and (carried v a) (carried v b)
  carried v (least d ws) = thr_of A d (map (at A v) ws)

  map_same : (v w : List X) (ws : List ℕ) → All (λ i. at A v i ≡ at A w i) ws → map (at A v) ws ≡ map (at A w) ws
  map_same v w [] a = refl
  map_same v w (i ∷ ws) a = ap₂ ◌∷◌ a.0 (map_same v w ws a.1)

  pub carried_same : (v w : List X) (e : Exp) → Over (λ i. at A v i ≡ at A w i) e → carried v e ≡ carried w e
  unfolding carried
  carried_same v w (wire i) o = o
  carried_same v w (sum a b) o = ap₂ A.xor (carried_same v w a o.0) (carried_same v w b o.1)
  carried_same v w (times a b) o = ap₂ A.and (carried_same v w a o.0) (carried_same v w b o.1)
  carried_same v w (least d ws) o = ap (thr_of A d) (map_same v w ws o.all)

  least_carries : (v : List X) (next d : ℕ) (ws : List ℕ) → next ≡ length v → Least d ws (λ w. w < length v)
      → Carries A v (threshold_part next d ws) (thr_of A d (map (at A v) ws))
  least_carries v next d [] n o = absurd (omega (arith, o.two))
  least_carries v next d (x ∷ []) n o = absurd (omega (arith, o.two))
  least_carries v next d (x ∷ y ∷ ys) n o = thr_any d x y ys o.some o.most A v next (below_all (length v) (x ∷ y ∷ ys) o.all) n

  -- what stands behind more wires carries the same
  later : (v : List X) (g : List Gate) (e : Exp) → Over (λ w. w < length v) e → carried (run A v g) e ≡ carried v e
  later v g e o = carried_same (run A v g) v e (over-map e (λ w h. run_keeps A v g w h) o)

  wider : (v : List X) (g : List Gate) (e : Exp) → Over (λ w. w < length v) e → Over (λ w. w < length (run A v g)) e
  wider v g e o = over-map e (λ w h. omega (arith, run_length A v g)) o

  past-run : (v : List X) (next : ℕ) (p : Part) → next ≡ length v → past next p ≡ length (run A v p.gates)
  unfolding past
  past-run v next p n = omega (arith, run_length A v p.gates)

  pub emit_carries : (e : Exp) (v : List X) (next : ℕ) → next ≡ length v → Over (λ w. w < length v) e → Carries A v (emit next e) (carried v e)
  unfolding emit carried
  emit_carries (wire w) v next n o = input_carries A v w o
  emit_carries (sum a b) v next n o =
      let p = emit next a in
      join_carries A Xor A.xor v next p (emit (past next p) b) (carried v a) (carried v b) (λ w i j. refl) n
      (emit_carries a v next n o.0)
      (rw (← later v p.gates b o.1) (emit_carries b (run A v p.gates) (past next p) (past-run v next p n) (wider v p.gates b o.1)))
  emit_carries (times a b) v next n o =
      let p = emit next a in
      join_carries A And A.and v next p (emit (past next p) b) (carried v a) (carried v b) (λ w i j. refl) n
      (emit_carries a v next n o.0)
      (rw (← later v p.gates b o.1) (emit_carries b (run A v p.gates) (past next p) (past-run v next p n) (wider v p.gates b o.1)))
  emit_carries (least d ws) v next n o = least_carries v next d ws n o

-- ---- the gates use earlier wires
past_more : (m : ℕ) (p : Part) (e : Exp) → Over (λ w. w < m) e → Over (λ w. w < past m p) e
unfolding past
past_more m p e o = over-map e (λ w h. omega arith) o

pub emit_sits : (e : Exp) (m : ℕ) → Over (λ w. w < m) e → Sits m (emit m e)
unfolding emit
emit_sits (wire w) m o = input_sits m w o
emit_sits (sum a b) m o = join_sits Xor m (emit m a) _ (λ n i j h k. (h, k)) (emit_sits a m o.0) (emit_sits b (past m (emit m a)) (past_more m (emit m a) b o.1))
emit_sits (times a b) m o = join_sits And m (emit m a) _ (λ n i j h k. (h, k)) (emit_sits a m o.0) (emit_sits b (past m (emit m a)) (past_more m (emit m a) b o.1))
emit_sits (least d []) m o = absurd (omega (arith, o.two))
emit_sits (least d (x ∷ [])) m o = absurd (omega (arith, o.two))
emit_sits (least d (x ∷ y ∷ ys)) m o = thr_sits d x y ys o.some o.most m (below_all m (x ∷ y ∷ ys) o.all)

-- ---- multiplications
join-mults : (g : ℕ → ℕ → Gate) (next : ℕ) (p q : Part) → muls_of (join g next p q).gates ≡ muls_of p.gates + muls_of q.gates + muls_of (g p.out q.out ∷ [])
unfolding join
join-mults g next p q = simp muls-append (omega arith)

minus : (a b z : ℕ) → a + 2 + b ≡ z → a ≡ z - 2 - b
minus a b z e = omega arith

pub emit-mults : (P : ℕ → Type 0) (e : Exp) (next : ℕ) → Over P e → muls_of (emit next e).gates ≡ muls e
unfolding emit muls input
emit-mults P (wire w) next o = refl
emit-mults P (sum a b) next o =
    let p = emit next a in
    let q = emit (past next p) b in
    omega (arith, join-mults Xor next p q, emit-mults P a next o.0, emit-mults P b (past next p) o.1)
emit-mults P (times a b) next o =
    let p = emit next a in
    let q = emit (past next p) b in
    omega (arith, join-mults And next p q, emit-mults P a next o.0, emit-mults P b (past next p) o.1)
emit-mults P (least d []) next o = absurd (omega (arith, o.two))
emit-mults P (least d (x ∷ [])) next o = absurd (omega (arith, o.two))
emit-mults P (least d (x ∷ y ∷ ys)) next o = minus _ _ _ (thr_mults d x y ys o.some o.most next)

-- ---- gates
pub emit-size : (P : ℕ → Type 0) (e : Exp) (next : ℕ) → Over P e → length (emit next e).gates ≡ size e
unfolding emit size input
emit-size P (wire w) next o = refl
emit-size P (sum a b) next o =
    let p = emit next a in
    let q = emit (past next p) b in
    omega (arith, length-join Xor next p q, emit-size P a next o.0, emit-size P b (past next p) o.1)
emit-size P (times a b) next o =
    let p = emit next a in
    let q = emit (past next p) b in
    omega (arith, length-join And next p q, emit-size P a next o.0, emit-size P b (past next p) o.1)
emit-size P (least d ws) next o = threshold_gates d ws next o.some o.most ∙ ap (λ (k : ℕ). k + 2 * (length ws - d)) (emit-mults P (least d ws) next o)

all_any : {X : Type 0} (xs : List X) → All (λ x. Unit {0}) xs
all_any [] = tt
all_any (x ∷ xs) = (tt, all_any xs)

-- FiLIP-144's threshold
pub threshold_count : (next : ℕ) (ws : List ℕ) → length ws ≡ 63 → length (threshold_part next 32 ws).gates ≡ 1115
unfolding emit size muls
threshold_count next ws e =
    emit-size (λ w. Unit {0}) (least 32 ws) next record { two = omega arith; some = omega arith; most = omega arith; all = all_any ws } ∙ rw e

-- ---- depth, where every wire of the expression has depth 0
zeros : (v : List ℕ) (ws : List ℕ) → All (λ w. at dep_alg v w ≡ 0) ws → map (at dep_alg v) ws ≡ replicate (length ws) 0
zeros v [] a = refl
zeros v (w ∷ ws) a = ap₂ ◌∷◌ a.0 (zeros v ws a.1)

pub depth-deep : (v : List ℕ) (e : Exp) → Over (λ w. at dep_alg v w ≡ 0) e → carried dep_alg v e ≡ deep e
unfolding carried deep
depth-deep v (wire w) o = o
depth-deep v (sum a b) o = ap₂ max (depth-deep v a o.0) (depth-deep v b o.1)
depth-deep v (times a b) o = ap suc (ap₂ max (depth-deep v a o.0) (depth-deep v b o.1))
depth-deep v (least d []) o = absurd (omega (arith, o.two))
depth-deep v (least d (x ∷ xs)) o = ap (thr_of dep_alg d) (zeros v (x ∷ xs) o.all) ∙ thr_depth d (length xs) o.some o.most ∙ omega arith
