-- The cells' values on bits: cell j of level i is 1 exactly if i inputs have weight j.
use mathlib.Core.Path.{◌≡◌, refl, sym, ap, ◌∙◌}
use mathlib.Core.Bool.{Bool, true, false}
use mathlib.Core.List.{List, [], ◌∷◌, ◌++◌, append-nil}
use Prim.Native.Nat.{ℕ, zero, suc, ◌+◌, ◌-◌, ◌≤◌, ◌<◌, max}
use native.Mathlib.Nat.{add-zero}
use native.Mathlib.Omega.{arith}
use lib.ListN.{length}
use lib.Dec.{eqb, leb}
use borrow.Author.Tests.{le-leb, lt-leb, eqb-true, eqb-false}
use native.Mathlib.Decide.{dec_le}
use Rattle.answer.specs.Choose.{choose}
use Rattle.netlist.specs.Net.{val_alg}
use Rattle.netlist.proofs.Bits.{Bits}
use Rattle.filter.specs.Filter.{ones}
use Rattle.cells.specs.InnerLoop.{pos, down}
use Rattle.cells.proofs.Wiring.{muxes, muxes_from, last_from, top, top_cell, new_row, new_sum, end_row, end_sum, first_row, cells_left, enough_next}

abbrev bsum : ℕ → ℕ → ℕ
bsum a b = val_alg.xor a b

abbrev bprod : ℕ → ℕ → ℕ
bprod a b = val_alg.and a b

-- 1 where the two are equal
abbrev pub same : ℕ → ℕ → ℕ
same zero zero = 1
same zero (suc w) = 0
same (suc j) zero = 0
same (suc j) (suc w) = same j w

-- 1 where w is at least d
abbrev pub ge : ℕ → ℕ → ℕ
ge zero w = 1
ge (suc d) zero = 0
ge (suc d) (suc w) = ge d w

abbrev pub weight : List ℕ → ℕ
weight [] = 0
weight (x ∷ xs) = x + weight xs

-- same j w, same (j + 1) w, .., m of them
abbrev pub hots : ℕ → ℕ → ℕ → List ℕ
hots j w zero = []
hots j w (suc m) = same j w ∷ hots (suc j) w m

same_at : (a b w : ℕ) → a ≡ b → same a w ≡ same b w
same_at a b w e = ap (λ (n : ℕ). same n w) e

hots-both : (i j v w a b : ℕ) → i ≡ j → v ≡ w → a ≡ b → hots i v a ≡ hots j w b
hots-both i j v w a b e f g = cc

cons_both : (a b : ℕ) (xs ys : List ℕ) → a ≡ b → xs ≡ ys → a ∷ xs ≡ b ∷ ys
cons_both a b xs ys e f = cc

hots-at : (j w a b : ℕ) → a ≡ b → hots j w a ≡ hots j w b
hots-at j w a b e = ap (hots j w) e

same_more : (j w : ℕ) → w < j → same j w ≡ 0
same_more zero w h = absurd (omega arith)
same_more (suc j) zero h = refl
same_more (suc j) (suc w) h = same_more j w (omega arith)

same-one : (j w : ℕ) → bprod (same j w) 1 ≡ same j w
same-one zero zero = refl
same-one zero (suc w) = refl
same-one (suc j) zero = refl
same-one (suc j) (suc w) = same-one j w

prod_zero : (y : ℕ) → bprod y 0 ≡ 0
prod_zero y = either (eqb y 0)
  where
    either : (b : Bool) → choose {X = ℕ} b 0 0 ≡ 0
    either true = refl
    either false = refl

ge-step : (t w : ℕ) → bsum (same t w) (ge (suc t) w) ≡ ge t w
ge-step zero zero = refl
ge-step zero (suc w) = refl
ge-step (suc t) zero = refl
ge-step (suc t) (suc w) = ge-step t w

sum-ge : (d w : ℕ) → bsum 0 (ge d w) ≡ ge d w
sum-ge zero w = refl
sum-ge (suc d) zero = refl
sum-ge (suc d) (suc w) = sum-ge d w

ge_less : (t w : ℕ) → w ≤ t → ge (suc t) w ≡ 0
ge_less t zero h = refl
ge_less zero (suc w) h = absurd (omega arith)
ge_less (suc t) (suc w) h = ge_less t w (omega arith)

ge-same : (t w : ℕ) → w ≤ t → same t w ≡ ge t w
ge-same zero zero h = refl
ge-same zero (suc w) h = absurd (omega arith)
ge-same (suc t) zero h = refl
ge-same (suc t) (suc w) h = ge-same t w (omega arith)

mux_0 : (p : ℕ) (vs : List ℕ) → muxes_from val_alg 0 p vs ≡ vs
mux_0 p [] = refl
mux_0 p (v ∷ vs) = ap (λ (z : List ℕ). v ∷ z) (mux_0 v vs)

mux_1 : (m j w : ℕ) → muxes_from val_alg 1 (same j w) (hots (suc j) w m) ≡ hots (suc j) (suc w) m
mux_1 zero j w = refl
mux_1 (suc m) j w = ap (λ (z : List ℕ). same j w ∷ z) (mux_1 m (suc j) w)

last_hots : (m j w : ℕ) → last_from val_alg (same j w) (hots (suc j) w m) ≡ same (j + m) w
last_hots zero j w = ap (λ (n : ℕ). same n w) (sym (add-zero j))
last_hots (suc m) j w = last_hots m (suc j) w ∙ same_at (suc j + m) (j + suc m) w (omega arith)

pub hots_snoc : (m j w : ℕ) → hots j w m ++ (same (j + m) w ∷ []) ≡ hots j w (suc m)
hots_snoc zero j w = ap (λ (n : ℕ). same n w ∷ []) (add-zero j)
hots_snoc (suc m) j w = ap (λ (z : List ℕ). same j w ∷ z) (ap (λ (n : ℕ). hots (suc j) w m ++ (n ∷ [])) (same_at (j + suc m) (suc j + m) w (omega arith)) ∙ hots_snoc m (suc j) w)

-- the cells over the muxes, at each input
top_0 : (h m j w : ℕ) → (2 ≤ h → w ≤ j + m)
    → muxes val_alg 0 (hots j w (suc m)) ++ top_cell val_alg h (top val_alg 0 (hots j w (suc m))) ≡ hots (suc j) w (m + pos (down h))
top_0 zero m j w e = rw (mux_0 (same j w) (hots (suc j) w m)) (append-nil _ ∙ hots-at (suc j) w m (m + 0) (omega arith))
top_0 (suc zero) m j w e = rw (mux_0 (same j w) (hots (suc j) w m)) (append-nil _ ∙ hots-at (suc j) w m (m + 0) (omega arith))
top_0 (suc (suc h)) m j w e =
    let z : bprod (last_from val_alg (same j w) (hots (suc j) w m)) 0 ≡ same (suc j + m) w = prod_zero (last_from val_alg (same j w) (hots (suc j) w m)) ∙ sym (same_more (suc j + m) w (let u = e (omega arith) in omega arith)) in
    rw (mux_0 (same j w) (hots (suc j) w m), z) (hots_snoc m (suc j) w ∙ hots-at (suc j) w (suc m) (m + 1) (omega arith))

top_1 : (h m j w : ℕ)
    → muxes val_alg 1 (hots j w (suc m)) ++ top_cell val_alg h (top val_alg 1 (hots j w (suc m))) ≡ hots (suc j) (suc w) (m + pos (down h))
top_1 zero m j w = rw (mux_1 m j w) (append-nil _ ∙ hots-at (suc j) (suc w) m (m + 0) (omega arith))
top_1 (suc zero) m j w = rw (mux_1 m j w) (append-nil _ ∙ hots-at (suc j) (suc w) m (m + 0) (omega arith))
top_1 (suc (suc h)) m j w =
    let z : bprod (last_from val_alg (same j w) (hots (suc j) w m)) 1 ≡ same (suc j + m) (suc w) =
    ap (λ (v : ℕ). bprod v 1) (last_hots m j w) ∙ same-one (j + m) w ∙ same_at (suc (j + m)) (suc j + m) (suc w) (omega arith) in
    rw (mux_1 m j w, z) (hots_snoc m (suc j) (suc w) ∙ hots-at (suc j) (suc w) (suc m) (m + 1) (omega arith))

-- a level's row
pub row-bits : (l h x m j w : ℕ) → x ≤ 1 → (0 < l → j ≡ 0) → (2 ≤ h → w ≤ j + m)
    → new_row val_alg l h x (hots j w (suc m)) ≡ hots (j + 1 - pos l) (x + w) (pos l + m + pos (down h))
row-bits zero h zero m j w hx hl hh = top_0 h m j w hh ∙ hots-both (suc j) (j + 1 - 0) w (0 + w) (m + pos (down h)) (0 + m + pos (down h)) (omega arith) (omega arith) (omega arith)
row-bits zero h (suc zero) m j w hx hl hh = top_1 h m j w ∙ hots-both (suc j) (j + 1 - 0) (suc w) (1 + w) (m + pos (down h)) (0 + m + pos (down h)) (omega arith) (omega arith) (omega arith)
row-bits (suc l) h zero m j w hx hl hh =
    cons_both (bprod (same j w) 1) (same j w) (muxes val_alg 0 (hots j w (suc m)) ++ top_cell val_alg h (top val_alg 0 (hots j w (suc m)))) (hots (suc j) w (m + pos (down h))) (same-one j w) (top_0 h m j w hh)
    ∙ hots-both j (j + 1 - 1) w (0 + w) (suc (m + pos (down h))) (1 + m + pos (down h)) (omega arith) (omega arith) (omega arith)
row-bits (suc l) h (suc zero) m j w hx hl hh =
    cons_both (bprod (same j w) 0) (same j (suc w)) (muxes val_alg 1 (hots j w (suc m)) ++ top_cell val_alg h (top val_alg 1 (hots j w (suc m)))) (hots (suc j) (suc w) (m + pos (down h)))
    (prod_zero (same j w) ∙ same_at 0 j (suc w) (sym (hl (omega arith)))) (top_1 h m j w)
    ∙ hots-both j (j + 1 - 1) (suc w) (1 + w) (suc (m + pos (down h))) (1 + m + pos (down h)) (omega arith) (omega arith) (omega arith)
row-bits l h (suc (suc x)) m j w hx hl hh = absurd (omega arith)

-- the last AND at each input
and_0 : (m j w : ℕ) → top val_alg 0 (hots j w (suc m)) ≡ 0
and_0 m j w = prod_zero (last_from val_alg (same j w) (hots (suc j) w m))

and_1 : (m j w t : ℕ) → j + m ≡ t → top val_alg 1 (hots j w (suc m)) ≡ same t w
and_1 m j w t e = ap (λ (v : ℕ). bprod v 1) (last_hots m j w) ∙ same-one (j + m) w ∙ same_at (j + m) t w e

ge-at : (t v w : ℕ) → v ≡ w → ge t v ≡ ge t w
ge-at t v w e = ap (ge t) e

-- the sum that goes on from level d: 1 exactly where the weight so far is at least d, which is t + 1
sum-bits : (h x m j w t s : ℕ) → x ≤ 1 → h ≤ 1 → j + m ≡ t → (h ≡ 0 → s ≡ ge (suc t) w) → (0 < h → w ≤ j + m)
    → new_sum val_alg h (top val_alg x (hots j w (suc m))) s ≡ ge (suc t) (x + w)
sum-bits zero zero m j w t s hx hh ht hs hw = ap (λ (z : ℕ). bsum z s) (and_0 m j w) ∙ ap (bsum 0) (hs refl) ∙ sum-ge (suc t) w ∙ ge-at (suc t) w (0 + w) (omega arith)
sum-bits zero (suc zero) m j w t s hx hh ht hs hw =
    ap (λ (z : ℕ). bsum z s) (and_1 m j w t ht) ∙ ap (bsum (same t w)) (hs refl) ∙ ge-step t w ∙ ge-at (suc t) (suc w) (1 + w) (omega arith)
sum-bits (suc h) zero m j w t s hx hh ht hs hw =
    let u = hw (omega arith) in and_0 m j w ∙ sym (ge_less t w (omega arith)) ∙ ge-at (suc t) w (0 + w) (omega arith)
sum-bits (suc h) (suc zero) m j w t s hx hh ht hs hw =
    let u = hw (omega arith) in and_1 m j w t ht ∙ ge-same t w (omega arith) ∙ ge-at (suc t) (suc w) (1 + w) (omega arith)
sum-bits h (suc (suc x)) m j w t s hx hh ht hs hw = absurd (omega arith)

-- where a run of levels may begin, on bits: the row has cells j .. j + m of a weight w so far
pub record Hot (k l h m j w : ℕ) (r : List ℕ) : Type 0 where
  pub row_is : 0 < k → r ≡ hots j w (suc m)
  pub low : 0 < l → j ≡ 0
  pub high : 0 < h → w ≤ j + m
  pub enough : k ≤ m + l + max h 1

hot_next : (k l h m j w x : ℕ) (r : List ℕ) → x ≤ 1 → Hot (suc k) l h m j w r
    → Hot k (down l) (down h) (pos l + m + pos (down h) - 1) (j + 1 - pos l) (x + w) (new_row val_alg l h x r)
hot_next k l h m j w x r hx c = record {
  row_is = λ hk. let y = cells_left k l h m c.enough hk in
      ap (new_row val_alg l h x) (c.row_is (omega arith)) ∙ row-bits l h x m j w hx c.low (λ h2. c.high (omega arith))
      ∙ hots-at (j + 1 - pos l) (x + w) (pos l + m + pos (down h)) (suc (pos l + m + pos (down h) - 1)) (omega arith);
  low = low' l j c.low;
  high = high' l h m j w x hx c.low c.high;
  enough = enough_next k l h m c.enough;
}
  where
    low' : (l j : ℕ) → (0 < l → j ≡ 0) → 0 < down l → j + 1 - pos l ≡ 0
    low' zero j f e = absurd (omega arith)
    low' (suc l) j f e = let u = f (omega arith) in omega arith

    high' : (l h m j w x : ℕ) → x ≤ 1 → (0 < l → j ≡ 0) → (0 < h → w ≤ j + m) → 0 < down h → x + w ≤ (j + 1 - pos l) + (pos l + m + pos (down h) - 1)
    high' l zero m j w x hx f g e = absurd (omega arith)
    high' l (suc zero) m j w x hx f g e = absurd (omega arith)
    high' zero (suc (suc h)) m j w x hx f g e = let u = g (omega arith) in omega arith
    high' (suc l) (suc (suc h)) m j w x hx f g e = let u = g (omega arith) in omega arith

down_le : (h n : ℕ) → h ≤ suc n → down h ≤ n
down_le zero n e = omega arith
down_le (suc h) n e = omega arith

down_0 : (h : ℕ) → down h ≡ 0 → h ≤ 1
down_0 zero e = omega arith
down_0 (suc h) e = omega arith

top_next : (k l h m j d : ℕ) → (0 < l → j ≡ 0) → suc k ≤ m + l + max h 1 → 0 < k → j + m + max h 1 ≡ d
    → j + 1 - pos l + (pos l + m + pos (down h) - 1) + max (down h) 1 ≡ d
top_next k zero zero m j d f e p q = omega arith
top_next k zero (suc zero) m j d f e p q = omega arith
top_next k zero (suc (suc h)) m j d f e p q = omega arith
top_next k (suc l) zero m j d f e p q = omega arith
top_next k (suc l) (suc zero) m j d f e p q = omega arith
top_next k (suc l) (suc (suc h)) m j d f e p q = omega arith

-- the sum after the last level
pub end_sum_lem : (xs : List ℕ) (l h m j w t s : ℕ) (r : List ℕ) → Bits xs → Hot (length xs) l h m j w r → h ≤ length xs
    → (0 < length xs → j + m + max h 1 ≡ suc t) → (h ≡ 0 → s ≡ ge (suc t) w) → end_sum val_alg l h r s xs ≡ ge (suc t) (w + weight xs)
end_sum_lem [] l h m j w t s r b c e f g = g (omega arith) ∙ ge-at (suc t) w (w + 0) (omega arith)
end_sum_lem (x ∷ xs) l h m j w t s r b c e f g =
    end_sum_lem xs (down l) (down h) (pos l + m + pos (down h) - 1) (j + 1 - pos l) (x + w) t (new_sum val_alg h (top val_alg x r) s) (new_row val_alg l h x r) (λ i. b (suc i)) (hot_next (length xs) l h m j w x r (b 0) c)
    (down_le h (length xs) e)
    (λ hk. top_next (length xs) l h m j (suc t) c.low c.enough hk (f (omega arith)))
    (λ h0. let u = down_0 h h0 in let v = f (omega arith) in
    ap (λ (z : List ℕ). new_sum val_alg h (top val_alg x z) s) (c.row_is (omega arith)) ∙ sum-bits h x m j w t s (b 0) u (omega arith) g c.high)
    ∙ ge-at (suc t) (x + w + weight xs) (w + (x + weight xs)) (omega arith)

-- the row of level 1
pub hot_first : (x k l t : ℕ) → x ≤ 1 → suc k ≤ l + max (suc t) 1
    → Hot k (down l) t (pos l + pos t - 1) (1 - pos l) x (first_row val_alg l (suc t) x)
hot_first (suc (suc x)) k l t hx f = absurd (omega arith)
hot_first zero k zero zero hx f = record { row_is = λ hk. absurd (omega arith); low = λ e. absurd (omega arith); high = λ e. absurd (omega arith); enough = omega arith }
hot_first zero k zero (suc t) hx f = record { row_is = λ hk. refl; low = λ e. absurd (omega arith); high = λ e. omega arith; enough = omega arith }
hot_first zero k (suc l) zero hx f = record { row_is = λ hk. refl; low = λ e. omega arith; high = λ e. absurd (omega arith); enough = omega arith }
hot_first zero k (suc l) (suc t) hx f = record { row_is = λ hk. refl; low = λ e. omega arith; high = λ e. omega arith; enough = omega arith }
hot_first (suc zero) k zero zero hx f = record { row_is = λ hk. absurd (omega arith); low = λ e. absurd (omega arith); high = λ e. absurd (omega arith); enough = omega arith }
hot_first (suc zero) k zero (suc t) hx f = record { row_is = λ hk. refl; low = λ e. absurd (omega arith); high = λ e. omega arith; enough = omega arith }
hot_first (suc zero) k (suc l) zero hx f = record { row_is = λ hk. refl; low = λ e. omega arith; high = λ e. absurd (omega arith); enough = omega arith }
hot_first (suc zero) k (suc l) (suc t) hx f = record { row_is = λ hk. refl; low = λ e. omega arith; high = λ e. omega arith; enough = omega arith }

one-ge : (x : ℕ) → x ≤ 1 → x ≡ ge 1 x
one-ge zero h = refl
one-ge (suc zero) h = refl
one-ge (suc (suc x)) h = absurd (omega arith)

top-first : (k l t : ℕ) → suc k ≤ l + max (suc t) 1 → 0 < k → 1 - pos l + (pos l + pos t - 1) + max t 1 ≡ suc t
top-first k zero zero f e = absurd (omega arith)
top-first k zero (suc t) f e = omega arith
top-first k (suc l) zero f e = omega arith
top-first k (suc l) (suc t) f e = omega arith

-- the sum over bits: 1 exactly if the weight is at least t + 1
pub sum-ge-weight : (x : ℕ) (ys : List ℕ) (l t : ℕ) → x ≤ 1 → Bits ys → suc (length ys) ≤ l + max (suc t) 1 → t ≤ length ys
    → end_sum val_alg (down l) t (first_row val_alg l (suc t) x) x ys ≡ ge (suc t) (x + weight ys)
sum-ge-weight x ys l t hx b f u =
    end_sum_lem ys (down l) t (pos l + pos t - 1) (1 - pos l) x t x (first_row val_alg l (suc t) x) b
    (hot_first x (length ys) l t hx f) (omega arith) (λ h. top-first (length ys) l t f (omega arith)) (λ z. one-ge x hx ∙ ap (λ (i : ℕ). ge (suc i) x) (sym z))

-- the row after the last level, where every level keeps both ends
pub end_row_lem : (xs : List ℕ) (l h m w : ℕ) (r : List ℕ) → Bits xs → Hot (length xs) l h m 0 w r → length xs ≤ l → length xs + 1 ≤ h → r ≡ hots 0 w (suc m)
    → end_row val_alg l h r xs ≡ hots 0 (w + weight xs) (suc m + length xs)
end_row_lem [] l h m w r b c el eh e = e ∙ hots-both 0 0 w (w + 0) (suc m) (suc m + 0) refl (omega arith) (omega arith)
end_row_lem (x ∷ xs) zero h m w r b c el eh e = absurd (omega arith)
end_row_lem (x ∷ xs) (suc l) zero m w r b c el eh e = absurd (omega arith)
end_row_lem (x ∷ xs) (suc l) (suc zero) m w r b c el eh e = absurd (omega arith)
end_row_lem (x ∷ xs) (suc l) (suc (suc h)) m w r b c el eh e =
    let n = hot_next (length xs) (suc l) (suc (suc h)) m 0 w x r (b 0) c in
    end_row_lem xs l (suc h) (1 + m + 1 - 1) (x + w) (new_row val_alg (suc l) (suc (suc h)) x r) (λ i. b (suc i)) n (omega arith) (omega arith)
    (ap (new_row val_alg (suc l) (suc (suc h)) x) e ∙ row-bits (suc l) (suc (suc h)) x m 0 w (b 0) (λ f. refl) (λ f. c.high (omega arith))
    ∙ hots-at 0 (x + w) (1 + m + 1) (suc (1 + m + 1 - 1)) (omega arith))
    ∙ hots-both 0 0 (x + w + weight xs) (w + (x + weight xs)) (suc (1 + m + 1 - 1) + length xs) (suc m + suc (length xs)) refl (omega arith) (omega arith)

-- the same as tests
pub weight-ones : (xs : List ℕ) → Bits xs → weight xs ≡ ones xs
unfolding ones
weight-ones [] b = refl
weight-ones (x ∷ xs) b = omega (arith, b 0, weight-ones xs (λ i. b (suc i)))

ge-more : (d w : ℕ) → d ≤ w → ge d w ≡ 1
ge-more zero w h = refl
ge-more (suc d) zero h = absurd (omega arith)
ge-more (suc d) (suc w) h = ge-more d w (omega arith)

pub ge_test : (d w : ℕ) → ge d w ≡ choose (leb d w) 1 0
ge_test zero w = rw (le-leb 0 w (omega arith))
ge_test (suc d) w =
    elim (dec_le (suc d) w) [
      | yes h ↦ rw (le-leb (suc d) w h) (ge-more (suc d) w h)
      | no h ↦ (let k : w ≤ d = omega arith in rw (lt-leb (suc d) w (omega arith)) (ge_less d w k))
    ]

same-one_place : (j : ℕ) → same j j ≡ 1
same-one_place zero = refl
same-one_place (suc j) = same-one_place j

same_other : (j w : ℕ) → (j ≡ w → ⊥) → same j w ≡ 0
same_other zero zero h = absurd (h refl)
same_other zero (suc w) h = refl
same_other (suc j) zero h = refl
same_other (suc j) (suc w) h = same_other j w (λ e. h (ap suc e))

pub same_test : (j w : ℕ) → same j w ≡ choose (eqb j w) 1 0
same_test j w = go (eqb j w) refl
  where
    go : (t : Bool) → eqb j w ≡ t → same j w ≡ choose t 1 0
    go true e = ap (same j) (sym (eqb-true j w e)) ∙ same-one_place j
    go false e = same_other j w (eqb-false j w e)
