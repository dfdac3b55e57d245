-- Laws of the level records of any spots: one more spot, what the records sum to, and records cleared and then counted. Which gates
-- multiply does not show here.
use Prim.Native.Nat.{ℕ, zero, suc, ◌+◌, ◌^◌, ◌<◌, ◌≤◌}
use mathlib.Core.Path.{◌≡◌, refl, sym, ap, subst, ◌∙◌}
use mathlib.Core.Bool.{true}
use mathlib.Core.List.{List, [], ◌∷◌, ◌++◌, map}
use native.Mathlib.Omega.{arith}
use native.Mathlib.Nat.{add-zero}
use lib.Dec.{eqb, ltb}
use lib.ListN.{length, get_or, set, replicate, length-set, length-replicate, get_or-replicate, get_or-append}
use lib.Seq.{ext_get_or, get_or-set_same, get_or-set_other, get_or-append_seam}
use borrow.Author.Tests.{eq-eqb, ne_eqb, lt-ltb, le-ltb}
use Rattle.answer.specs.Choose.{choose}
use Rattle.netlist.specs.Words.{inputs_of, gates_of}
use Rattle.netlist.proofs.Sim.{length_snoc, split, split_suc}
use Rattle.netlist.proofs.Glued.{map-append}
use Rattle.meter.specs.declared.Level.{Level}
use Rattle.meter.specs.declared.Spot.{Spot}
use Rattle.meter.specs.Levels.{spot_of, sum_of, level_at, levels_below, total}
use Rattle.meter.specs.InnerLevels.{no_gates, bump, with_spot, tallied, gained, Slight, Countable, Tallies, Clears}

-- ---- sums

pub sum_none : (f : ℕ → ℕ) → 0 ≡ sum_of f 0
unfolding sum_of
sum_none f = refl

pub sum_more : (f : ℕ → ℕ) (n : ℕ) → sum_of f n + f n ≡ sum_of f (suc n)
unfolding sum_of
sum_more f n = refl

pub sum_add : (f g : ℕ → ℕ) (n : ℕ) → sum_of (λ k. f k + g k) n ≡ sum_of f n + sum_of g n
unfolding sum_of
sum_add f g zero = refl
sum_add f g (suc n) = omega (arith, sum_add f g n)

sum_agree : (f g : ℕ → ℕ) (n : ℕ) → ((k : ℕ) → k < n → f k ≡ g k) → sum_of f n ≡ sum_of g n
unfolding sum_of
sum_agree f g zero h = refl
sum_agree f g (suc n) h = omega (arith, sum_agree f g n (λ k l. h k (omega arith)), h n (omega arith))

total_snoc : (l : List ℕ) (x : ℕ) → total (l ++ x ∷ []) ≡ total l + x
unfolding total
total_snoc [] x = omega arith
total_snoc (y ∷ l) x = omega (arith, total_snoc l x)

same_or_not : (i d : ℕ) {P : Type 0} → (i ≡ d → P) → ((i ≡ d → ⊥) → P) → P
same_or_not i d f g =
    split i d (λ h. g (λ e. omega arith)) (λ h. split d i (λ q. g (λ e. omega arith)) (λ q. f (omega arith)))

level_eq : (a b : Level) → a.ands ≡ b.ands → a.muxes ≡ b.muxes → a ≡ b
level_eq a b p q i = record { ands = p i; muxes = q i }

-- ---- the records of some spots
module _ (spot : ℕ → Spot) where
  -- what a spot adds of x at level l
  abbrev hit : (Spot → ℕ) → ℕ → ℕ → ℕ
  hit x l g = choose (eqb (spot g).at l) (x (spot g)) 0

  -- the sum at the spot's level gains what it adds, and every other is as it was
  here : (x : Spot → ℕ) (g : ℕ) → sum_of (hit x (spot g).at) (suc g) ≡ sum_of (hit x (spot g).at) g + x (spot g)
  unfolding sum_of
  here x g = rw (eq-eqb (spot g).at (spot g).at refl)

  elsewhere : (x : Spot → ℕ) (g l : ℕ) → ((spot g).at ≡ l → ⊥) → sum_of (hit x l) (suc g) ≡ sum_of (hit x l) g
  unfolding sum_of
  elsewhere x g l p = rw (ne_eqb (spot g).at l p, add-zero)

  level_here : (g : ℕ) → level_at spot (suc g) (spot g).at ≡ bump (level_at spot g (spot g).at) (spot g)
  unfolding level_at
  level_here g = level_eq _ _ (here (λ s. s.ands) g) (here (λ s. s.muxes) g)

  level_elsewhere : (g l : ℕ) → ((spot g).at ≡ l → ⊥) → level_at spot (suc g) l ≡ level_at spot g l
  unfolding level_at
  level_elsewhere g l p = level_eq _ _ (elsewhere (λ s. s.ands) g l p) (elsewhere (λ s. s.muxes) g l p)

  level_none : (l : ℕ) → level_at spot 0 l ≡ no_gates
  unfolding level_at sum_of
  level_none l = refl

  pub below_length : (g n : ℕ) → length (levels_below spot g n) ≡ n
  unfolding levels_below
  below_length g zero = refl
  below_length g (suc n) = length_snoc (levels_below spot g n) _ ∙ ap suc (below_length g n)

  below_at : (g n l : ℕ) → l < n → get_or (levels_below spot g n) l no_gates ≡ level_at spot g l
  unfolding levels_below
  below_at g zero l h = absurd (omega arith)
  below_at g (suc n) l h =
      split_suc l n h
      (λ q. get_or-append (levels_below spot g n) _ no_gates l (omega (arith, below_length g n)) ∙ below_at g n l q)
      (λ e. let e' : l ≡ length (levels_below spot g n) = omega (arith, below_length g n) in
      ap (λ (j : ℕ). get_or (levels_below spot g n ++ level_at spot g n ∷ []) j no_gates) e'
      ∙ get_or-append_seam (levels_below spot g n) _ [] no_gates
      ∙ ap (level_at spot g) (sym e))

  below_none : (n : ℕ) → levels_below spot 0 n ≡ replicate n no_gates
  below_none n =
      ext_get_or no_gates _ _ (below_length 0 n ∙ sym (length-replicate n no_gates))
      (λ l h. let q : l < n = omega (arith, below_length 0 n) in
      below_at 0 n l q ∙ level_none l ∙ sym (get_or-replicate n l no_gates no_gates q))

  below_more : (g n : ℕ) → (spot g).at < n → set (levels_below spot g n) (spot g).at (level_at spot (suc g) (spot g).at) ≡ levels_below spot (suc g) n
  below_more g n h =
      let d = (spot g).at in
      let v = level_at spot (suc g) d in
      let old = levels_below spot g n in
      let long : length (set old d v) ≡ n = length-set old d v ∙ below_length g n in
      ext_get_or no_gates _ _ (long ∙ sym (below_length (suc g) n)) (λ i l. at i (omega (arith, long)))
    where
      at : (i : ℕ) → i < n → get_or (set (levels_below spot g n) (spot g).at (level_at spot (suc g) (spot g).at)) i no_gates ≡ get_or (levels_below spot (suc g) n) i no_gates
      at i l =
          let v = level_at spot (suc g) (spot g).at in
          same_or_not i (spot g).at
          (λ q. rw q (get_or-set_same (levels_below spot g n) (spot g).at v no_gates (omega (arith, below_length g n)) ∙ sym (below_at (suc g) n (spot g).at h)))
          (λ q. get_or-set_other (levels_below spot g n) (spot g).at i v no_gates q ∙ below_at g n i l ∙ sym (level_elsewhere g i (λ r. q (sym r))) ∙ sym (below_at (suc g) n i l))

  -- spots that agree give the same records
  level_agree : (spot' : ℕ → Spot) (g l : ℕ) → ((j : ℕ) → j < g → spot j ≡ spot' j) → level_at spot g l ≡ level_at spot' g l
  unfolding level_at
  level_agree spot' g l h =
      level_eq _ _
      (sum_agree _ _ g (λ j q. ap (λ (s : Spot). choose (eqb s.at l) s.ands 0) (h j q)))
      (sum_agree _ _ g (λ j q. ap (λ (s : Spot). choose (eqb s.at l) s.muxes 0) (h j q)))

  pub below_agree : (spot' : ℕ → Spot) (g n : ℕ) → ((j : ℕ) → j < g → spot j ≡ spot' j) → levels_below spot g n ≡ levels_below spot' g n
  unfolding levels_below
  below_agree spot' g zero h = refl
  below_agree spot' g (suc n) h = rw (below_agree spot' g n h, level_agree spot' g n h) refl

-- ---- over the levels, each count sums to what the spots add: f of a record counts x of the spots
module _ (spot : ℕ → Spot) (f : Level → ℕ) (x : Spot → ℕ) (counts : (g l : ℕ) → f (level_at spot g l) ≡ sum_of (hit spot x l) g) where
  below_total : (g n : ℕ) → total (map f (levels_below spot g (suc n))) ≡ total (map f (levels_below spot g n)) + sum_of (hit spot x n) g
  unfolding levels_below
  below_total g n =
      ap total (map-append f (levels_below spot g n) (level_at spot g n ∷ []))
      ∙ total_snoc (map f (levels_below spot g n)) (f (level_at spot g n))
      ∙ ap (λ (y : ℕ). total (map f (levels_below spot g n)) + y) (counts g n)

  total_none : (n : ℕ) → total (map f (levels_below spot 0 n)) ≡ 0
  unfolding levels_below total
  total_none zero = refl
  total_none (suc n) = omega (arith, below_total 0 n, total_none n, sum_none (hit spot x n))

  one_more : (d n y : ℕ) → choose (ltb d (suc n)) y 0 ≡ choose (ltb d n) y 0 + choose (eqb d n) y 0
  one_more d n y =
      split d n
      (λ h. rw (lt-ltb d (suc n) (omega arith), lt-ltb d n h, ne_eqb d n (λ e. omega arith), add-zero))
      (λ h. split n d
      (λ q. rw (le-ltb d (suc n) (omega arith), le-ltb d n h, ne_eqb d n (λ e. omega arith)))
      (λ q. rw (lt-ltb d (suc n) (omega arith), le-ltb d n h, eq-eqb d n (omega arith)) (omega arith)))

  total-more : (g n : ℕ) → total (map f (levels_below spot (suc g) n)) ≡ total (map f (levels_below spot g n)) + choose (ltb (spot g).at n) (x (spot g)) 0
  unfolding levels_below total
  total-more g zero = rw (le-ltb (spot g).at 0 (omega arith))
  total-more g (suc n) =
      omega (arith, total-more g n, below_total (suc g) n, below_total g n, sum_more (hit spot x n) g, one_more (spot g).at n (x (spot g)))

  total_spots : (g n : ℕ) → ((j : ℕ) → j < g → (spot j).at < n) → total (map f (levels_below spot g n)) ≡ sum_of (λ j. x (spot j)) g
  total_spots zero n h = total_none n ∙ sum_none _
  total_spots (suc g) n h =
      let e : ltb (spot g).at n ≡ true = lt-ltb _ _ (h g (omega arith)) in
      let ih = total_spots g n (λ j l. h j (omega arith)) in
      total-more g n ∙ rw (e, ih) (sum_more (λ j. x (spot j)) g)

pub total-ands : (spot : ℕ → Spot) (g n : ℕ) → ((j : ℕ) → j < g → (spot j).at < n) → total (map (λ l. l.ands) (levels_below spot g n)) ≡ sum_of (λ j. (spot j).ands) g
unfolding level_at
total-ands spot g n h = total_spots spot (λ l. l.ands) (λ s. s.ands) (λ g l. refl) g n h

pub total-muxes : (spot : ℕ → Spot) (g n : ℕ) → ((j : ℕ) → j < g → (spot j).at < n) → total (map (λ l. l.muxes) (levels_below spot g n)) ≡ sum_of (λ j. (spot j).muxes) g
unfolding level_at
total-muxes spot g n h = total_spots spot (λ l. l.muxes) (λ s. s.muxes) (λ g l. refl) g n h

-- ---- for the loop that counts: lengths stay, no count is above the number of spots so far, and one more is counted
module _ (spot : ℕ → Spot) (ls : List Level) where
  pub length-tallied : (g : ℕ) → length (tallied spot g ls) ≡ length ls
  unfolding tallied with_spot
  length-tallied zero = refl
  length-tallied (suc g) = length-set (tallied spot g ls) _ _ ∙ length-tallied g

  pub tallied_none : ls ≡ tallied spot 0 ls
  unfolding tallied
  tallied_none = refl

  pub tallied-more : (g : ℕ) {s : Spot} → s ≡ spot g → set (tallied spot g ls) s.at (bump (get_or (tallied spot g ls) s.at no_gates) s) ≡ tallied spot (suc g) ls
  unfolding tallied with_spot
  tallied-more g e = ap (λ (s : Spot). set (tallied spot g ls) s.at (bump (get_or (tallied spot g ls) s.at no_gates) s)) e

  -- neither count of a record is above m
  abbrev Small : ℕ → Level → Type 0
  Small m v = (v.ands ≤ m) × (v.muxes ≤ m)

  tallied_small : (l g : ℕ) → get_or ls l no_gates ≡ no_gates → Countable spot g (length ls) → Small g (get_or (tallied spot g ls) l no_gates)
  unfolding tallied with_spot
  tallied_small l zero e h = rw e (omega arith, omega arith)
  tallied_small l (suc g) e h =
      let T = tallied spot g ls in
      let s = spot g in
      let v = bump (get_or T s.at no_gates) s in
      let ih = tallied_small l g e (record { limit = omega (arith, h.limit); slight = λ k q. h.slight k (omega arith); low = λ k q. h.low k (omega arith) }) in
      let few = h.slight g (omega arith) in
      same_or_not l s.at
      (λ q. let had : Small g (get_or T s.at no_gates) = subst (λ (j : ℕ). Small g (get_or T j no_gates)) q ih in
      subst (Small (suc g)) (sym (ap (λ (j : ℕ). get_or (set T s.at v) j no_gates) q ∙ get_or-set_same T s.at v no_gates (omega (arith, length-tallied g, h.low g (omega arith)))))
      (omega (arith, had.0, few.0), omega (arith, had.1, few.1)))
      (λ q. subst (Small (suc g)) (sym (get_or-set_other T s.at l v no_gates q)) (omega (arith, ih.0), omega (arith, ih.1)))

-- what is summed up so far is at most two for each
gained_le : (spot : ℕ → Spot) (g : ℕ) → ((k : ℕ) → k < g → Slight (spot k)) → gained spot g ≤ g + g
unfolding sum_of
gained_le spot zero h = omega arith
gained_le spot (suc g) h = omega (arith, gained_le spot g (λ k l. h k (omega arith)), (h g (omega arith)).2)

-- ---- for the turns of that loop: what is added fits, and so does the sum
module _ {spot : ℕ → Spot} {n : ℕ} (ls : List Level) (t : Countable spot n (length ls)) where
  so_far : (g : ℕ) → g ≤ n → Countable spot g (length ls)
  so_far g l = record { limit = omega (arith, t.limit); slight = λ k q. t.slight k (omega arith); low = λ k q. t.low k (omega arith) }

  pub gained-fits : (g : ℕ) → g ≤ n → gained spot g < 2 ^ 32
  gained-fits g l = omega (arith, gained_le spot g (so_far g l).slight, t.limit)

  module _ (g : ℕ) (l : g < n) {s : Spot} (e : s ≡ spot g) where
    pub spot_inside : s.at < length ls
    spot_inside = omega (arith, ap (λ (p : Spot). p.at) e, t.low g l)

    -- where the record counted nothing at first
    pub sums_fit : get_or ls (spot g).at no_gates ≡ no_gates
        → ((get_or (tallied spot g ls) s.at no_gates).ands + s.ands < 2 ^ 32) × ((get_or (tallied spot g ls) s.at no_gates).muxes + s.muxes < 2 ^ 32)
    sums_fit z =
        let none : get_or ls s.at no_gates ≡ no_gates = ap (λ (p : Spot). get_or ls p.at no_gates) e ∙ z in
        let few : Slight s = subst Slight (sym e) (t.slight g l) in
        let had = tallied_small spot ls s.at g none (so_far g (omega arith)) in
        (omega (arith, had.0, few.0, t.limit), omega (arith, had.1, few.1, t.limit))

    pub gained-more : gained spot g + s.multiplications ≡ gained spot (suc g)
    gained-more = ap (λ (p : Spot). gained spot g + p.multiplications) e ∙ sum_more _ g

-- ---- for the levels cleared and then counted: both together count, and the first leaves what the second asks
module _ {spot : ℕ → Spot} {g c : ℕ} (s : Countable spot g c) {mid : List Level} (e : mid ≡ replicate c no_gates) where
  counts : (n : ℕ) → n ≤ g → tallied spot n mid ≡ levels_below spot n c
  unfolding tallied with_spot
  counts zero h = e ∙ sym (below_none spot c)
  counts (suc n) h =
      let d = (spot n).at in
      let now : List Level = levels_below spot n c in
      let low : d < c = s.low n (omega arith) in
      ap (λ (t : List Level). set t d (bump (get_or t d no_gates) (spot n))) (counts n (omega arith))
      ∙ ap (λ (v : Level). set now d (bump v (spot n))) (below_at spot n c d low)
      ∙ ap (set now d) (sym (level_here spot n))
      ∙ below_more spot n c low

  pub both_count : {new : List Level} → new ≡ tallied spot g mid → new ≡ levels_below spot g c
  both_count h = h ∙ counts g (omega arith)

pub levels_stand : {net ds : List ℕ} {c : ℕ} {mid : List Level} → Clears net ds c → mid ≡ replicate c no_gates → Tallies net ds (inputs_of net) (gates_of net) mid
levels_stand {net} {ds} {c} {mid} s e =
    let long : length mid ≡ c = ap length e ∙ length-replicate c no_gates in
    record {
      stands = s.stands;
      countable = record { limit = s.countable.limit; slight = s.countable.slight; low = λ k h. omega (arith, s.countable.low k h, long) };
      none = λ k h.
          ap (λ (t : List Level). get_or t (spot_of net ds k).at no_gates) e ∙ get_or-replicate c (spot_of net ds k).at no_gates no_gates (s.countable.low k h);
    }
