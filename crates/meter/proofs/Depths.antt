-- Laws of depths: their bounds, one more gate, and the largest of them.
use Prim.Native.Nat.{ℕ, zero, suc, ◌+◌, ◌/◌, ◌<◌, ◌≤◌, max, zero-le}
use mathlib.Core.Path.{◌≡◌, refl, sym, ap, subst, ◌∙◌}
use mathlib.Core.List.{List, [], ◌∷◌, ◌++◌, map, append_assoc}
use native.Mathlib.Omega.{arith}
use native.Mathlib.Numerals.{add-one}
use lib.ListN.{length, get_or, set, take, drop, replicate, length-replicate, replicate-append-replicate, take-append-drop}
use lib.Seq.{drop_at, take-suc, take-length, take-append_seam, take-take, get_or-drop}
use Rattle.answer.specs.Fronts.{over}
use Rattle.answer.proofs.Over.{over_next, over-at, over-over, take-over}
use Rattle.netlist.specs.declared.gate.Gate.{Gate}
use Rattle.netlist.specs.declared.gate.Gate.TheVariants.{Zero, One, Not, Xor, And, Mux}
use Rattle.netlist.specs.Gates.{taken_of, gate_words, gate_of}
use Rattle.netlist.specs.Net.{Net, Alg, at, step, run, dep_alg, max_of, depths, depth, wires_of, Uses}
use Rattle.netlist.specs.Words.{header_words, inputs_of, gates_of, gate_place, gate_at, gates_at, net_of}
use Rattle.netlist.specs.Check.{gate_limit}
use Rattle.netlist.specs.Sound.{Sound}
use Rattle.netlist.proofs.Gates.{operands_low}
use Rattle.netlist.proofs.Sim.{length_snoc, run-append, run_length, step-front}
use Rattle.netlist.proofs.Glued.{map-append, map_agree, at_le_max}
use Rattle.netlist.proofs.Words.{gates_length, gates_snoc, sound_valid}
use Rattle.meter.specs.Levels.{level_count}
use Rattle.meter.specs.InnerDepths.{depths_to, DepthsLent}
use Rattle.meter.proofs.Fills.{fill_length, fill_at}

-- Lists of zeros.
zeros_le : (n k : ℕ) → get_or (replicate n 0) k 0 ≤ 0
zeros_le zero k = zero-le
zeros_le (suc n) zero = zero-le
zeros_le (suc n) (suc k) = zeros_le n k

-- a front written over a list stands in it
over_stands : {new : List ℕ} (front old : List ℕ) → new ≡ over front old → new ≡ over front new
over_stands front old e = rw e (sym (over-over front front old (omega arith)))

-- The depths of the first gates: how many, one more, and none above the number of gates.
pub depths-length : (net : List ℕ) (g : ℕ) → length (depths_to net g) ≡ inputs_of net + g
unfolding depths_to
depths-length net g =
    omega (arith, run_length dep_alg (replicate (inputs_of net) 0) (gates_at net header_words g), gates_length net header_words g, length-replicate {A = ℕ} (inputs_of net) 0)

pub depths-more : (net : List ℕ) (g : ℕ) → depths_to net (g + 1) ≡ depths_to net g ++ step dep_alg (depths_to net g) (gate_at net (gate_place g)) ∷ []
unfolding depths_to
depths-more net g =
    ap (run dep_alg (replicate (inputs_of net) 0)) (gates_snoc net header_words g)
    ∙ run-append dep_alg (replicate (inputs_of net) 0) (gates_at net header_words g) (gate_at net (gate_place g) ∷ [])

step_le : (v : List ℕ) (m : ℕ) (g : Gate) → ((k : ℕ) → get_or v k 0 ≤ m) → step dep_alg v g ≤ m + 1
step_le v m Zero h = omega arith
step_le v m One h = omega arith
step_le v m (Not a) h = omega (arith, h a)
step_le v m (Xor a b) h = omega (arith, h a, h b)
step_le v m (And a b) h = omega (arith, h a, h b)
step_le v m (Mux a b c) h = omega (arith, h a, h b, h c)

snoc_le : (ds : List ℕ) (v m : ℕ) → ((j : ℕ) → get_or ds j 0 ≤ m) → v ≤ m → (k : ℕ) → get_or (ds ++ v ∷ []) k 0 ≤ m
snoc_le [] v m h p zero = p
snoc_le [] v m h p (suc k) = zero-le
snoc_le (d ∷ ds) v m h p zero = h 0
snoc_le (d ∷ ds) v m h p (suc k) = snoc_le ds v m (λ j. h (suc j)) p k

depths_none : (net : List ℕ) (k : ℕ) → get_or (depths_to net 0) k 0 ≤ 0
unfolding depths_to
depths_none net k = zeros_le (inputs_of net) k

pub depths_le : (net : List ℕ) (g k : ℕ) → get_or (depths_to net g) k 0 ≤ g
depths_le net zero k = depths_none net k
depths_le net (suc g) k =
    subst (λ (n : ℕ). get_or (depths_to net n) k 0 ≤ n) (add-one g)
    (rw (depths-more net g)
    (snoc_le (depths_to net g) _ (g + 1) (λ j. omega (arith, depths_le net g j)) (step_le (depths_to net g) g (gate_at net (gate_place g)) (depths_le net g)) k))

pub depths_whole : (net : List ℕ) → depths_to net (gates_of net) ≡ depths (net_of net)
unfolding depths_to
depths_whole net = refl

pub depths_count : (net : List ℕ) → length (depths (net_of net)) ≡ inputs_of net + gates_of net
depths_count net = ap length (sym (depths_whole net)) ∙ depths-length net (gates_of net)

step-over : (front old : List ℕ) (g : Gate) → Uses (length front) g → step dep_alg (over front old) g ≡ step dep_alg front g
unfolding over
step-over front old g u = step-front dep_alg front _ g u

-- For the loop over the gates: it starts at the inputs, each operand stands, and one more depth is stored.
front_stands : (a b old : List ℕ) → over a (over (a ++ b) old) ≡ over (a ++ b) old
unfolding over
front_stands a b old =
    let rest = drop (length (a ++ b)) old in
    ap (λ (l : List ℕ). a ++ drop (length a) l) (append_assoc a b rest)
    ∙ ap (λ (l : List ℕ). a ++ l) (drop_at a (b ++ rest) (length a) refl)
    ∙ sym (append_assoc a b rest)

pub gates_start : {net : List ℕ} {i n : ℕ} {ds : List ℕ} → DepthsLent net i n ds → ds ≡ over (replicate (i + n) 0) ds → ds ≡ over (depths_to net 0) ds
unfolding depths_to
gates_start {net} {i} {n} {ds} s z =
    let e : ds ≡ over (replicate i 0 ++ replicate n 0) ds = z ∙ ap (λ (l : List ℕ). over l ds) (sym (replicate-append-replicate i n 0)) in
    e
    ∙ sym (front_stands (replicate i 0) (replicate n 0) ds)
    ∙ ap (over (replicate i 0)) (sym e)
    ∙ ap (λ (k : ℕ). over (replicate k 0) ds) s.inputs

-- Wire 0 has depth 0: it is an input, or a gate over no wires.
snoc_flat : (v : List ℕ) (g : Gate) → Uses (length v) g → get_or v 0 0 ≡ 0 → get_or (v ++ step dep_alg v g ∷ []) 0 0 ≡ 0
snoc_flat [] Zero u f = refl
snoc_flat [] One u f = refl
snoc_flat [] (Not a) u f = absurd (omega (arith, u))
snoc_flat [] (Xor a b) u f = absurd (omega (arith, u.0))
snoc_flat [] (And a b) u f = absurd (omega (arith, u.0))
snoc_flat [] (Mux a b c) u f = absurd (omega (arith, u.0))
snoc_flat (x ∷ v) g u f = f

first_flat : (net : List ℕ) → Sound net → (g : ℕ) → g ≤ gates_of net → get_or (depths_to net g) 0 0 ≡ 0
first_flat net s zero h = omega (arith, depths_none net 0)
first_flat net s (suc g) h =
    let u : Uses (length (depths_to net g)) (gate_at net (gate_place g)) = rw (depths-length net g) (s.uses g (omega arith)) in
    subst (λ (n : ℕ). get_or (depths_to net n) 0 0 ≡ 0) (add-one g)
    (rw (depths-more net g) (snoc_flat (depths_to net g) (gate_at net (gate_place g)) u (first_flat net s g (omega arith))))

over_flat : (front old : List ℕ) → get_or front 0 0 ≡ 0 → get_or old 0 0 ≡ 0 → get_or (over front old) 0 0 ≡ 0
unfolding over
over_flat [] old f o = o
over_flat (x ∷ front) old f o = f

-- the depth that the words k, a, b, c of a gate give, where wires have the depths v
flat : (v : List ℕ) (a : ℕ) → get_or v 0 0 ≡ 0 → a ≡ 0 → get_or v a 0 ≡ 0
flat v a f e = rw e f

deep_right : (k a b c : ℕ) (v : List ℕ) → get_or v 0 0 ≡ 0 → gate_words (gate_of k a b c) ≡ k ∷ a ∷ b ∷ c ∷ []
    → max (get_or v a 0) (max (get_or v b 0) (get_or v c 0)) + k / 4 ≡ step dep_alg v (gate_of k a b c)
unfolding gate_of taken_of
deep_right zero a b c v f e = omega (arith, flat v a f (cc), flat v b f (cc), flat v c f (cc))
deep_right (suc zero) a b c v f e = omega (arith, flat v a f (cc), flat v b f (cc), flat v c f (cc))
deep_right (suc (suc zero)) a b c v f e = omega (arith, flat v b f (cc), flat v c f (cc))
deep_right (suc (suc (suc zero))) a b c v f e = omega (arith, flat v c f (cc))
deep_right (suc (suc (suc (suc zero)))) a b c v f e = omega (arith, flat v c f (cc))
deep_right (suc (suc (suc (suc (suc zero))))) a b c v f e = omega arith
deep_right (suc (suc (suc (suc (suc (suc k)))))) a b c v f e = let h : 0 ≡ suc (suc (suc (suc (suc (suc k))))) = cc in absurd (omega arith)

-- a gate's words are of one of the six kinds
kind_low : (g : Gate) (k a b c : ℕ) → gate_words g ≡ k ∷ a ∷ b ∷ c ∷ [] → k ≤ 5
kind_low Zero k a b c e = let h : k ≡ 0 = cc in omega arith
kind_low One k a b c e = let h : k ≡ 1 = cc in omega arith
kind_low (Not x) k a b c e = let h : k ≡ 2 = cc in omega arith
kind_low (Xor x y) k a b c e = let h : k ≡ 3 = cc in omega arith
kind_low (And x y) k a b c e = let h : k ≡ 4 = cc in omega arith
kind_low (Mux x y z) k a b c e = let h : k ≡ 5 = cc in omega arith

-- no operand word is past the gate's own wire
module _ {net : List ℕ} {i n : ℕ} {old : List ℕ} (s : DepthsLent net i n old) (g : ℕ) (less : g < n) where
  operands : (get_or net (gate_place g + 1) 0 ≤ i + g) × (get_or net (gate_place g + 2) 0 ≤ i + g) × (get_or net (gate_place g + 3) 0 ≤ i + g)
  operands =
      let there : g < gates_of net = omega (arith, s.gates) in
      rw s.inputs (operands_low _ _ _ _ _ (s.sound.uses g there) (s.sound.whole g there))

  pub first_low : get_or net (gate_place g + 1) 0 ≤ i + g
  first_low = operands.0

  pub second_low : get_or net (gate_place g + 2) 0 ≤ i + g
  second_low = operands.1

  pub third_low : get_or net (gate_place g + 3) 0 ≤ i + g
  third_low = operands.2

module _ {net : List ℕ} {i n : ℕ} {old : List ℕ} (s : DepthsLent net i n old) (z : old ≡ over (replicate (i + n) 0) old) (g : ℕ) (less : g < n) {out : List ℕ} (e : out ≡ over (depths_to net g) old) where
  front_length : length (depths_to net g) ≡ i + g
  front_length = omega (arith, depths-length net g, s.inputs)

  there : g < gates_of net
  there = omega (arith, s.gates)

  pub kind : get_or net (gate_place g) 0 ≤ 5
  kind = kind_low (gate_at net (gate_place g)) _ _ _ _ (s.sound.whole g there)

  wire_zero : get_or out 0 0 ≡ 0
  wire_zero =
      let o : get_or old 0 0 ≡ 0 = ap (λ (l : List ℕ). get_or l 0 0) z ∙ fill_at 0 old (i + n) 0 (omega arith) in
      rw e (over_flat (depths_to net g) old (first_flat net s.sound g (omega (arith, there))) o)

  deep : max (get_or out (get_or net (gate_place g + 1) 0) 0) (max (get_or out (get_or net (gate_place g + 2) 0) 0) (get_or out (get_or net (gate_place g + 3) 0) 0)) + get_or net (gate_place g) 0 / 4
      ≡ step dep_alg (depths_to net g) (gate_at net (gate_place g))
  deep =
      let u : Uses (length (depths_to net g)) (gate_at net (gate_place g)) = rw (depths-length net g) (s.sound.uses g there) in
      deep_right _ _ _ _ out wire_zero (s.sound.whole g there)
      ∙ ap (λ (o : List ℕ). step dep_alg o (gate_at net (gate_place g))) e
      ∙ step-over (depths_to net g) old (gate_at net (gate_place g)) u

  pub gate_low : max (get_or out (get_or net (gate_place g + 1) 0) 0) (max (get_or out (get_or net (gate_place g + 2) 0) 0) (get_or out (get_or net (gate_place g + 3) 0) 0)) ≤ gate_limit
  gate_low =
      omega (arith, deep, step_le (depths_to net g) g (gate_at net (gate_place g)) (depths_le net g), there, s.sound.limits.gates)

  pub gate_more : {v : ℕ}
      → v ≡ max (get_or out (get_or net (gate_place g + 1) 0) 0) (max (get_or out (get_or net (gate_place g + 2) 0) 0) (get_or out (get_or net (gate_place g + 3) 0) 0)) + get_or net (gate_place g) 0 / 4
      → set out (i + g) v ≡ over (depths_to net (g + 1)) old
  gate_more {v} h =
      let whole : depths_to net g ++ v ∷ [] ≡ depths_to net (g + 1) = rw (h ∙ deep) (sym (depths-more net g)) in
      rw e
      (over_next (depths_to net g) old (i + g) v front_length (omega (arith, s.room))
      ∙ ap (λ (f : List ℕ). over f old) whole)

-- The largest.
max-append : (a b : List ℕ) → max_of (a ++ b) ≡ max (max_of a) (max_of b)
max-append [] b = omega arith
max-append (x ∷ a) b = omega (arith, max-append a b)

max_zeros : (n : ℕ) → max_of (replicate n 0) ≡ 0
max_zeros zero = refl
max_zeros (suc n) = omega (arith, max_zeros n)

-- For the loops that look for it: one more.
pub max-more : (l : List ℕ) (i : ℕ) {t r : ℕ} → i < length l → t ≡ max_of (take i l) → r ≡ max t (get_or l i 0) → r ≡ max_of (take (i + 1) l)
max-more l i h e d =
    rw (add-one i, take-suc l i 0 h) (omega (arith, max-append (take i l) (get_or l i 0 ∷ [])))

pub outs_more : (f : ℕ → ℕ) (l : List ℕ) (o : ℕ) {t r : ℕ} → o < length l → t ≡ max_of (map f (take o l)) → r ≡ max t (f (get_or l o 0)) → r ≡ max_of (map f (take (o + 1) l))
outs_more f l o h e d =
    rw (add-one o, take-suc l o 0 h, map-append f (take o l)) (omega (arith, max-append (map f (take o l)) (f (get_or l o 0) ∷ [])))

run-front : {X : Type 0} (A : Alg X) (v : List X) (gs : List Gate) → take (length v) (run A v gs) ≡ v
run-front A v [] = take-length v
run-front A v (g ∷ gs) =
    let w = v ++ step A v g ∷ [] in
    let l : length v ≤ length w = omega (arith, length_snoc v (step A v g)) in
    sym (take-take (length v) (length w) (run A w gs) l) ∙ ap (take (length v)) (run-front A w gs) ∙ take-append_seam v _

-- the inputs' depths are 0, so that the largest of all wires' is the gates'
max_gates : (n : Net) → max_of (depths n) ≡ max_of (drop n.inputs (depths n))
max_gates n =
    let z : List ℕ = replicate n.inputs 0 in
    let e : take n.inputs (depths n) ≡ z = rw (length-replicate {A = ℕ} n.inputs 0) at (run-front dep_alg z n.gates) in
    ap max_of (sym (take-append-drop n.inputs (depths n)))
    ∙ max-append (take n.inputs (depths n)) (drop n.inputs (depths n))
    ∙ ap (λ (l : List ℕ). max (max_of l) (max_of (drop n.inputs (depths n)))) e
    ∙ omega (arith, max_zeros n.inputs)

pub gate_level : (n : Net) (g : ℕ) → get_or (depths n) (n.inputs + g) 0 < level_count n
gate_level n g =
    omega (arith, get_or-drop n.inputs (depths n) g 0, at_le_max (drop n.inputs (depths n)) g)

-- For the passes over the depths, once they stand.
pub top_level : (net old : List ℕ) → max_of (take (inputs_of net + gates_of net) (over (depths (net_of net)) old)) + 1 ≡ level_count (net_of net)
top_level net old =
    let t : take (inputs_of net + gates_of net) (over (depths (net_of net)) old) ≡ depths (net_of net) = rw (depths_count net) at (take-over (depths (net_of net)) old) in
    rw t (omega (arith, max_gates (net_of net)))

pub outs_depth : (net old : List ℕ) → Sound net → max_of (map (at dep_alg (over (depths (net_of net)) old)) (net_of net).outs) ≡ depth (net_of net)
outs_depth net old s =
    ap max_of
    (map_agree _ _ (wires_of (net_of net)) (net_of net).outs (sound_valid net s).outs
    (λ i h. over-at (depths (net_of net)) old i (omega (arith, depths_count net, gates_length net header_words (gates_of net)))))

-- For the two passes that fill the depths: the first leaves what the second asks, and both together fill.
module _ {net : List ℕ} {i g : ℕ} {ds mid : List ℕ} (s : DepthsLent net i g ds) (e : mid ≡ over (replicate (i + g) 0) ds) where
  pub zeros_stand : DepthsLent net i g mid × (mid ≡ over (replicate (i + g) 0) mid)
  zeros_stand =
      let long : length mid ≡ length ds = ap length e ∙ fill_length 0 ds (i + g) s.room in
      (record { sound = s.sound; inputs = s.inputs; gates = s.gates; room = omega (arith, s.room) }, over_stands (replicate (i + g) 0) ds e)

  pub both_fill : {new : List ℕ} → new ≡ over (depths_to net g) mid → new ≡ over (depths_to net g) ds
  both_fill h =
      h
      ∙ ap (over (depths_to net g)) e
      ∙ over-over (replicate (i + g) 0) (depths_to net g) ds (omega (arith, length-replicate {A = ℕ} (i + g) 0, depths-length net g, s.inputs))
