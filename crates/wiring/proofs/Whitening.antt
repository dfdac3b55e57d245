-- The wires of a row's variables: what they carry, where they stand, how many NOTs they take.
use Prim.Native.Nat.{ℕ, zero, suc, ◌+◌, ◌%◌, ◌<◌, ◌≤◌}
use mathlib.Core.Path.{◌≡◌, refl, sym, ap, ap₂, ◌∙◌}
use mathlib.Core.List.{List, [], ◌∷◌, ◌++◌, map}
use native.Mathlib.Omega.{arith}
use lib.ListN.{length, get_or, take, length-take, get_or-append}
use lib.Seq.{get_or_at, take-suc}
use Rattle.netlist.specs.Net.{Alg, at, run, val_alg, muls_of, GatesWired}
use Rattle.netlist.proofs.Sim.{run_keeps, length_snoc}
use Rattle.filter.specs.Filter.{var, tab, ones}
use Rattle.wiring.specs.Decipher.{nots, vars}
use Rattle.wiring.proofs.Exps.{All, all_map}

module _ {X : Type 0} (A : Alg X) where
  -- a variable over what the key's wire carries
  abbrev pub white : X → ℕ → X
  white x zero = x
  white x (suc w) = A.neg x

  abbrev pub whites : List X → List ℕ → List ℕ → List X
  whites u [] ws = []
  whites u (p ∷ ps) [] = at A u p ∷ whites u ps []
  whites u (p ∷ ps) (w ∷ ws) = white (at A u p) w ∷ whites u ps ws

  pub record Old (u v : List X) (p : ℕ) : Type 0 where
    pub there : p < length v
    pub same : at A v p ≡ at A u p

  old_snoc : (u v : List X) (x : X) (p : ℕ) → Old u v p → Old u (v ++ x ∷ []) p
  old_snoc u v x p o = record { there = omega (arith, length_snoc v x, o.there); same = get_or-append v (x ∷ []) A.none p o.there ∙ o.same }

  pub nots_carry : (u v : List X) (row ws : List ℕ) (next : ℕ) → next ≡ length v → All (Old u v) row
      → map (at A (run A v (nots row ws))) (vars next row ws) ≡ whites u row ws
  unfolding nots vars
  nots_carry u v [] ws next n a = refl
  nots_carry u v (p ∷ ps) [] next n a = ap₂ ◌∷◌ (run_keeps A v (nots ps []) p a.0.there ∙ a.0.same) (nots_carry u v ps [] next n a.1)
  nots_carry u v (p ∷ ps) (zero ∷ ws) next n a = ap₂ ◌∷◌ (run_keeps A v (nots ps ws) p a.0.there ∙ a.0.same) (nots_carry u v ps ws next n a.1)
  nots_carry u v (p ∷ ps) (suc w ∷ ws) next n a =
      let x = A.neg (at A v p) in
      let v' = v ++ x ∷ [] in
      ap₂ ◌∷◌
      (run_keeps A v' (nots ps ws) next (omega (arith, length_snoc v x)) ∙ get_or_at v x [] A.none next (sym n) ∙ ap A.neg a.0.same)
      (nots_carry u v' ps ws (suc next) (omega (arith, length_snoc v x)) (all_map ps (old_snoc u v x) a.1))

-- ---- where they stand
pub nots_wired : (m : ℕ) (row ws : List ℕ) → All (λ p. p < m) row → GatesWired m (nots row ws)
unfolding nots
nots_wired m [] ws a = tt
nots_wired m (p ∷ ps) [] a = nots_wired m ps [] a.1
nots_wired m (p ∷ ps) (zero ∷ ws) a = nots_wired m ps ws a.1
nots_wired m (p ∷ ps) (suc w ∷ ws) a = (a.0, nots_wired (suc m) ps ws (all_map ps (λ i h. omega arith) a.1))

pub nots-mults : (row ws : List ℕ) → muls_of (nots row ws) ≡ 0
unfolding nots
nots-mults [] ws = refl
nots-mults (p ∷ ps) [] = nots-mults ps []
nots-mults (p ∷ ps) (zero ∷ ws) = nots-mults ps ws
nots-mults (p ∷ ps) (suc w ∷ ws) = omega (arith, nots-mults ps ws)

-- a NOT for each whitening 1
pub nots-ones : (row ws : List ℕ) → length row ≡ length ws → All (λ w. w ≤ 1) ws → length (nots row ws) ≡ ones ws
unfolding nots ones
nots-ones [] [] e a = refl
nots-ones [] (w ∷ ws) e a = absurd (omega arith)
nots-ones (p ∷ ps) [] e a = absurd (omega arith)
nots-ones (p ∷ ps) (zero ∷ ws) e a = omega (arith, nots-ones ps ws (omega arith) a.1)
nots-ones (p ∷ ps) (suc zero ∷ ws) e a = omega (arith, nots-ones ps ws (omega arith) a.1)
nots-ones (p ∷ ps) (suc (suc w) ∷ ws) e a = absurd (omega (arith, a.0))

pub vars_below : (m : ℕ) (row ws : List ℕ) → All (λ p. p < m) row → All (λ w. w < m + length (nots row ws)) (vars m row ws)
unfolding nots vars
vars_below m [] ws a = tt
vars_below m (p ∷ ps) [] a = (omega (arith, a.0), vars_below m ps [] a.1)
vars_below m (p ∷ ps) (zero ∷ ws) a = (omega (arith, a.0), vars_below m ps ws a.1)
vars_below m (p ∷ ps) (suc w ∷ ws) a =
    (omega arith, all_map (vars (suc m) ps ws) (λ i h. omega arith) (vars_below (suc m) ps ws (all_map ps (λ i h. omega arith) a.1)))

pub vars-length : (m : ℕ) (row ws : List ℕ) → length (vars m row ws) ≡ length row
unfolding vars
vars-length m [] ws = refl
vars-length m (p ∷ ps) [] = ap suc (vars-length m ps [])
vars-length m (p ∷ ps) (zero ∷ ws) = ap suc (vars-length m ps ws)
vars-length m (p ∷ ps) (suc w ∷ ws) = ap suc (vars-length (suc m) ps ws)

-- ---- values and depths
pub whites-append : {X : Type 0} (A : Alg X) (u : List X) (ps qs ws zs : List ℕ) → length ps ≡ length ws → whites A u (ps ++ qs) (ws ++ zs) ≡ whites A u ps ws ++ whites A u qs zs
whites-append A u [] qs [] zs e = refl
whites-append A u [] qs (w ∷ ws) zs e = absurd (omega arith)
whites-append A u (p ∷ ps) qs [] zs e = absurd (omega arith)
whites-append A u (p ∷ ps) qs (w ∷ ws) zs e = ap (λ z. white A (at A u p) w ∷ z) (whites-append A u ps qs ws zs (omega arith))

white-bit : (x w : ℕ) → x ≤ 1 → w ≤ 1 → white val_alg x w ≡ (x + w) % 2
white-bit zero zero h k = refl
white-bit zero (suc zero) h k = refl
white-bit zero (suc (suc w)) h k = absurd (omega arith)
white-bit (suc zero) zero h k = refl
white-bit (suc zero) (suc zero) h k = refl
white-bit (suc zero) (suc (suc w)) h k = absurd (omega arith)
white-bit (suc (suc x)) w h k = absurd (omega arith)

-- what a filter's variables are, of rows R and W of at least n places
pub whites-tab : (key u R W : List ℕ) (n : ℕ) → n ≤ length R → n ≤ length W → ((j : ℕ) → j < n → get_or W j 0 ≤ 1)
    → ((j : ℕ) → j < n → (at val_alg u (get_or R j 0) ≡ get_or key (get_or R j 0) 0) × (get_or key (get_or R j 0) 0 ≤ 1))
    → whites val_alg u (take n R) (take n W) ≡ tab (var key R W) n
unfolding tab var
whites-tab key u R W zero hr hw bw bk = refl
whites-tab key u R W (suc n) hr hw bw bk =
    let k = bk n (omega arith) in
    let l : length (take n R) ≡ length (take n W) = omega (arith, length-take n R, length-take n W) in
    rw (
      take-suc R n 0,
      take-suc W n 0,
      whites-append val_alg u (take n R) (get_or R n 0 ∷ []) (take n W) (get_or W n 0 ∷ []) l,
      whites-tab key u R W n (omega arith) (omega arith) (λ j h. bw j (omega arith)) (λ j h. bk j (omega arith)),
    )
    (ap (λ (z : ℕ). tab (var key R W) n ++ z ∷ []) (ap (λ (z : ℕ). white val_alg z (get_or W n 0)) k.0 ∙ white-bit (get_or key (get_or R n 0) 0) (get_or W n 0) k.1 (bw n (omega arith))))

pub whites-all : {X : Type 0} (A : Alg X) (P : X → Type 0) → ((x : X) → P x → P (A.neg x)) → (u : List X) (row ws : List ℕ) → All (λ p. P (at A u p)) row → All P (whites A u row ws)
whites-all A P f u [] ws a = tt
whites-all A P f u (p ∷ ps) [] a = (a.0, whites-all A P f u ps [] a.1)
whites-all A P f u (p ∷ ps) (zero ∷ ws) a = (a.0, whites-all A P f u ps ws a.1)
whites-all A P f u (p ∷ ps) (suc w ∷ ws) a = (f _ a.0, whites-all A P f u ps ws a.1)

pub neg_bit : (x : ℕ) → x ≤ 1 → val_alg.neg x ≤ 1
neg_bit zero h = omega arith
neg_bit (suc zero) h = omega arith
neg_bit (suc (suc x)) h = absurd (omega arith)

-- from the list of what is carried back to the wires
pub all_back : {X : Type 0} (f : ℕ → X) (P : X → Type 0) (ws : List ℕ) (xs : List X) → map f ws ≡ xs → All P xs → All (λ w. P (f w)) ws
all_back f P ws xs e a = go ws (rw (← e) at a)
  where
    go : (ws : List ℕ) → All P (map f ws) → All (λ w. P (f w)) ws
    go [] a = tt
    go (w ∷ ws) a = (a.0, go ws a.1)
