-- Depth and multiplications of the cells, and how many gates there are at most.
use mathlib.Core.Path.{◌≡◌, refl, ap, ◌∙◌}
use mathlib.Core.List.{List, [], ◌∷◌, ◌++◌, append-nil}
use Prim.Native.Nat.{ℕ, zero, suc, ◌+◌, ◌-◌, ◌*◌, ◌/◌, ◌≤◌, ◌<◌, max}
use native.Mathlib.Nat.{zero-add}
use native.Mathlib.Omega.{arith}
use lib.ListN.{length, replicate, length-append}
use Rattle.netlist.specs.declared.gate.Gate.{Gate}
use Rattle.netlist.specs.Net.{dep_alg, muls_of}
use Rattle.netlist.proofs.Glued.{muls-append}
use Rattle.cells.specs.InnerLoop.{pos, down, tail, low_gates, sum_gates, levels, first_gates, first_wire, cells}
use Rattle.cells.proofs.Same.{length_low, length-tail, length-sum, length-first}
use Rattle.cells.proofs.Wiring.{muxes_from, last_from, new_row, new_sum, top, top_cell, end_sum, first_row, cells_left, enough_next, pos_le}

dmux : (m e : ℕ) → muxes_from dep_alg 0 e (replicate m e) ≡ replicate m (suc e)
dmux zero e = refl
dmux (suc m) e = let u : suc (max 0 (max e e)) ≡ suc e = omega arith in
    ap (λ (z : ℕ). z ∷ muxes_from dep_alg 0 e (replicate m e)) u ∙ ap (λ (z : List ℕ). suc e ∷ z) (dmux m e)

dlast : (m e : ℕ) → last_from dep_alg e (replicate m e) ≡ e
dlast zero e = refl
dlast (suc m) e = dlast m e

dtop : (m e : ℕ) → top dep_alg 0 (replicate (suc m) e) ≡ suc e
dtop m e = let u : suc (max e 0) ≡ suc e = omega arith in ap (λ (z : ℕ). suc (max z 0)) (dlast m e) ∙ u

snoc_replicate : (m e : ℕ) → replicate m e ++ (e ∷ []) ≡ replicate (suc m) e
snoc_replicate zero e = refl
snoc_replicate (suc m) e = ap (λ (z : List ℕ). e ∷ z) (snoc_replicate m e)

rep_at : (a b e : ℕ) → a ≡ b → replicate a e ≡ replicate b e
rep_at a b e h = ap (λ (n : ℕ). replicate n e) h

dtops : (h m e : ℕ) → replicate m (suc e) ++ top_cell dep_alg h (suc e) ≡ replicate (m + pos (down h)) (suc e)
dtops zero m e = append-nil (replicate m (suc e)) ∙ rep_at m (m + 0) (suc e) (omega arith)
dtops (suc zero) m e = append-nil (replicate m (suc e)) ∙ rep_at m (m + 0) (suc e) (omega arith)
dtops (suc (suc h)) m e = snoc_replicate m (suc e) ∙ rep_at (suc m) (m + 1) (suc e) (omega arith)

drow : (l h m e : ℕ) → new_row dep_alg l h 0 (replicate (suc m) e) ≡ replicate (pos l + m + pos (down h)) (suc e)
drow zero h m e = ap (λ (z : List ℕ). z ++ top_cell dep_alg h (top dep_alg 0 (replicate (suc m) e))) (dmux m e)
    ∙ ap (λ (z : ℕ). replicate m (suc e) ++ top_cell dep_alg h z) (dtop m e) ∙ dtops h m e ∙ rep_at (m + pos (down h)) (0 + m + pos (down h)) (suc e) (omega arith)
drow (suc l) h m e = let u : suc (max e 0) ≡ suc e = omega arith in
    ap (λ (z : ℕ). z ∷ (muxes_from dep_alg 0 e (replicate m e) ++ top_cell dep_alg h (top dep_alg 0 (replicate (suc m) e)))) u
    ∙ ap (λ (z : List ℕ). suc e ∷ (z ++ top_cell dep_alg h (top dep_alg 0 (replicate (suc m) e)))) (dmux m e)
    ∙ ap (λ (z : ℕ). suc e ∷ (replicate m (suc e) ++ top_cell dep_alg h z)) (dtop m e) ∙ ap (λ (z : List ℕ). suc e ∷ z) (dtops h m e)
    ∙ rep_at (suc (m + pos (down h))) (1 + m + pos (down h)) (suc e) (omega arith)

dsum : (h m e s : ℕ) → s ≤ e → new_sum dep_alg h (top dep_alg 0 (replicate (suc m) e)) s ≡ suc e
dsum zero m e s h = ap (λ (z : ℕ). max z s) (dtop m e) ∙ omega arith
dsum (suc i) m e s h = dtop m e

-- k levels over a row of depth e: the sum's depth, where there is a level, is e + k
dend : (k l h m e s : ℕ) (r : List ℕ) → (0 < k → r ≡ replicate (suc m) e) → k ≤ m + l + max h 1 → s ≤ e → (k ≡ 0 → s ≡ e) → end_sum dep_alg l h r s (replicate k 0) ≡ e + k
dend zero l h m e s r er en hs h0 = h0 refl ∙ omega arith
dend (suc k) l h m e s r er en hs h0 =
    let q = er (omega arith) in
    let v : new_sum dep_alg h (top dep_alg 0 r) s ≡ suc e = ap (λ (z : List ℕ). new_sum dep_alg h (top dep_alg 0 z) s) q ∙ dsum h m e s hs in
    let w : suc e + k ≡ e + suc k = omega arith in
    dend k (down l) (down h) (pos l + m + pos (down h) - 1) (suc e) (new_sum dep_alg h (top dep_alg 0 r) s) (new_row dep_alg l h 0 r)
    (λ hk. let y = cells_left k l h m en hk in ap (new_row dep_alg l h 0) q ∙ drow l h m e ∙ rep_at (pos l + m + pos (down h)) (suc (pos l + m + pos (down h) - 1)) (suc e) (omega arith))
    (enough_next k l h m en) (omega arith) (λ z. v) ∙ w

dfirst : (k l t : ℕ) → suc k ≤ l + max (suc t) 1 → 0 < k → first_row dep_alg l (suc t) 0 ≡ replicate (suc (pos l + pos t - 1)) 0
dfirst k zero zero f hk = absurd (omega arith)
dfirst k zero (suc t) f hk = refl
dfirst k (suc l) zero f hk = refl
dfirst k (suc l) (suc t) f hk = refl

denough : (k l t : ℕ) → suc k ≤ l + max (suc t) 1 → k ≤ (pos l + pos t - 1) + down l + max t 1
denough k zero zero f = omega arith
denough k zero (suc t) f = omega arith
denough k (suc l) zero f = omega arith
denough k (suc l) (suc t) f = omega arith

-- the sum over depths 0: one a level
pub sum-depth : (k l t : ℕ) → suc k ≤ l + max (suc t) 1 → end_sum dep_alg (down l) t (first_row dep_alg l (suc t) 0) 0 (replicate k 0) ≡ k
sum-depth k l t f =
    dend k (down l) t (pos l + pos t - 1) 0 0 (first_row dep_alg l (suc t) 0) (λ hk. dfirst k l t f hk) (denough k l t f) (omega arith) (λ z. refl) ∙ omega arith

-- ---- multiplications
mults_low : (l x a n : ℕ) → muls_of (low_gates l x a n) ≡ pos l
mults_low zero x a n = refl
mults_low (suc l) x a n = refl

mults-tail : (m x a s : ℕ) → muls_of (tail x a s m) ≡ m + 1
mults-tail zero x a s = refl
mults-tail (suc m) x a s = omega (arith, mults-tail m x s (s + 1))

mults-sum : (h t s : ℕ) → muls_of (sum_gates h t s) ≡ 0
mults-sum zero t s = refl
mults-sum (suc h) t s = refl

mults_level : (x : ℕ) (xs : List ℕ) (l h a s m next sm : ℕ) → muls_of (levels (x ∷ xs) l h a s m next sm)
    ≡ pos l + (m + 1) + muls_of (levels xs (down l) (down h) (next + pos l) (next + pos l + 1) (pos l + m + pos (down h) - 1) (next + 2 * pos l + m + 2 - pos h) (next + 2 * pos l + m + 1 - pos h))
mults_level x xs l h a s m next sm = simp (muls-append, mults_low, mults-tail, mults-sum) (omega arith)

-- twice the multiplications of k levels, where the cells end with the levels
poly_step : (k l h m M : ℕ) → suc (suc k) ≡ m + l + max h 1 → 2 * M + down l * (down l + 1) + down (down h) * (down (down h) + 1) ≡ suc k * (suc k + 1) + 2 * down l
    → 2 * (pos l + (m + 1) + M) + l * (l + 1) + down h * (down h + 1) ≡ suc (suc k) * (suc (suc k) + 1) + 2 * l
poly_step k zero zero m M e q = omega arith
poly_step k zero (suc zero) m M e q = omega arith
poly_step k zero (suc (suc h)) m M e q = omega arith
poly_step k (suc l) zero m M e q = omega arith
poly_step k (suc l) (suc zero) m M e q = omega arith
poly_step k (suc l) (suc (suc h)) m M e q = omega arith

eq_next : (k l h m : ℕ) → suc (suc k) ≡ m + l + max h 1 → suc k ≡ (pos l + m + pos (down h) - 1) + down l + max (down h) 1
eq_next k zero zero m e = omega arith
eq_next k zero (suc zero) m e = omega arith
eq_next k zero (suc (suc h)) m e = omega arith
eq_next k (suc l) zero m e = omega arith
eq_next k (suc l) (suc zero) m e = omega arith
eq_next k (suc l) (suc (suc h)) m e = omega arith

poly_one : (l h m : ℕ) → 1 ≡ m + l + max h 1 → 2 * (pos l + (m + 1) + 0) + l * (l + 1) + down h * (down h + 1) ≡ 1 * (1 + 1) + 2 * l
poly_one zero zero m e = omega arith
poly_one zero (suc zero) m e = omega arith
poly_one zero (suc (suc h)) m e = absurd (omega arith)
poly_one (suc l) h m e = absurd (omega arith)

mults-levels : (x : ℕ) (xs : List ℕ) (l h a s m next sm : ℕ) → suc (length xs) ≡ m + l + max h 1
    → 2 * muls_of (levels (x ∷ xs) l h a s m next sm) + l * (l + 1) + down h * (down h + 1) ≡ suc (length xs) * (suc (length xs) + 1) + 2 * l
mults-levels x [] l h a s m next sm e = rw (mults_level x [] l h a s m next sm) (poly_one l h m e)
mults-levels x (y ∷ xs) l h a s m next sm e =
    rw (mults_level x (y ∷ xs) l h a s m next sm)
    (poly_step (length xs) l h m (muls_of (levels (y ∷ xs) (down l) (down h) (next + pos l) (next + pos l + 1) (pos l + m + pos (down h) - 1) (next + 2 * pos l + m + 2 - pos h) (next + 2 * pos l + m + 1 - pos h))) e
    (mults-levels y xs (down l) (down h) (next + pos l) (next + pos l + 1) (pos l + m + pos (down h) - 1) (next + 2 * pos l + m + 2 - pos h) (next + 2 * pos l + m + 1 - pos h) (eq_next (length xs) l h m e)))

mults-first : (l x : ℕ) → muls_of (first_gates l x) ≡ 0
mults-first zero x = refl
mults-first (suc l) x = refl

eq_first : (k l t : ℕ) → suc (suc k) ≡ l + suc t → suc k ≡ (pos l + pos t - 1) + down l + max t 1
eq_first k zero zero e = absurd (omega arith)
eq_first k zero (suc t) e = omega arith
eq_first k (suc l) zero e = omega arith
eq_first k (suc l) (suc t) e = omega arith

poly_first' : (l t M : ℕ) → 0 < l + t → 2 * M + down l * (down l + 1) + down t * (down t + 1) ≡ (l + t) * (l + t + 1) + 2 * down l
    → M + 2 + pos l ≡ (suc t + 1) * (l + 1)
poly_first' zero zero M e q = absurd (omega arith)
poly_first' zero (suc t) M e q = omega arith
poly_first' (suc l) zero M e q = omega arith
poly_first' (suc l) (suc t) M e q = omega arith

poly_first : (k l t M : ℕ) → suc (suc k) ≡ l + suc t → 2 * M + down l * (down l + 1) + down t * (down t + 1) ≡ suc k * (suc k + 1) + 2 * down l
    → M + 2 + pos l ≡ (suc t + 1) * (l + 1)
poly_first k l t M e q =
    let u : suc k ≡ l + t = omega arith in
    poly_first' l t M (omega arith) (rw u at q)

-- multiplications (d + 1)(n - d + 1) - 2, and one fewer if d < n; l is n - d, d is t + 1
pub cells-mults : (x y : ℕ) (ys : List ℕ) (l t next : ℕ) → suc (suc (length ys)) ≡ l + suc t → muls_of (cells (x ∷ y ∷ ys) l (suc t) next) + 2 + pos l ≡ (suc t + 1) * (l + 1)
cells-mults x y ys l t next e =
    let G : List Gate = levels (y ∷ ys) (down l) t (first_wire l x next) x (pos l + pos t - 1) (next + pos l) x in
    rw (muls-append (first_gates l x) G, mults-first l x, zero-add (muls_of G))
    (poly_first (length ys) l t (muls_of G) e (mults-levels y ys (down l) t (first_wire l x next) x (pos l + pos t - 1) (next + pos l) x (eq_first (length ys) l t e)))

-- where every level keeps both ends: a level more has a cell more
hot_levels : (xs : List ℕ) (l h a s m next sm : ℕ) → length xs ≤ l → length xs + 1 ≤ h → 2 * muls_of (levels xs l h a s m next sm) ≡ length xs * (2 * m + length xs + 3)
hot_levels [] l h a s m next sm el eh = omega arith
hot_levels (x ∷ xs) zero h a s m next sm el eh = absurd (omega arith)
hot_levels (x ∷ xs) (suc l) zero a s m next sm el eh = absurd (omega arith)
hot_levels (x ∷ xs) (suc l) (suc zero) a s m next sm el eh = absurd (omega arith)
hot_levels (x ∷ xs) (suc l) (suc (suc h)) a s m next sm el eh =
    let i = hot_levels xs l (suc h) (next + 1) (next + 1 + 1) (1 + m + 1 - 1) (next + 2 * 1 + m + 2 - 1) (next + 2 * 1 + m + 1 - 1) (omega arith) (omega arith) in
    rw (mults_level x xs (suc l) (suc (suc h)) a s m next sm) (one_more (length xs) m _ _ i (omega arith))
  where
    one_more : (k m m' M : ℕ) → 2 * M ≡ k * (2 * m' + k + 3) → m' ≡ m + 1 → 2 * (1 + (m + 1) + M) ≡ suc k * (2 * m + suc k + 3)
    one_more k m m' M e f = let e' : 2 * M ≡ k * (2 * (m + 1) + k + 3) = rw f at e in omega arith

-- multiplications of one-hot: 2(n - 1) + n(n - 1)/2
pub hot_mults : (x : ℕ) (xs : List ℕ) (next k : ℕ) → length xs ≡ k → muls_of (cells (x ∷ xs) (suc k) (suc (suc k)) next) ≡ 2 * k + suc k * k / 2
hot_mults x xs next k e =
    halved k (muls_of (levels xs k (suc k) next x (1 + 1 - 1) (next + 1) x))
    (hot_levels xs k (suc k) next x (1 + 1 - 1) (next + 1) x (omega arith) (omega arith) ∙ ap (λ (y : ℕ). y * (2 * 1 + y + 3)) e)
  where
    halved : (k M : ℕ) → 2 * M ≡ k * (2 * 1 + k + 3) → 0 + M ≡ 2 * k + suc k * k / 2
    halved k M e = let f : suc k * k ≡ 2 * (M - 2 * k) = omega arith in omega arith

-- gates of the levels, with at most M cells after the first
levels-length : (xs : List ℕ) (l h a s m next sm M : ℕ) → m ≤ M → length (levels xs l h a s m next sm) ≤ length xs * (M + length xs + 3)
levels-length [] l h a s m next sm M e = omega arith
levels-length (x ∷ xs) l h a s m next sm M e =
    let rest = levels xs (down l) (down h) (next + pos l) (next + pos l + 1) (pos l + m + pos (down h) - 1) (next + 2 * pos l + m + 2 - pos h) (next + 2 * pos l + m + 1 - pos h) in
    let i = levels-length xs (down l) (down h) (next + pos l) (next + pos l + 1) (pos l + m + pos (down h) - 1) (next + 2 * pos l + m + 2 - pos h) (next + 2 * pos l + m + 1 - pos h) (M + 1)
    (omega (arith, pos_le l, pos_le (down h))) in
    simp (length-append, length_low, length-tail, length-sum) (one_more (length xs) (pos l) (pos h) m M (length rest) (pos_le l) e i)
  where
    one_more : (k p q m M R : ℕ) → p ≤ 1 → m ≤ M → R ≤ k * (M + 1 + k + 3) → 2 * p + (m + 1 + (1 - q + R)) ≤ suc k * (M + suc k + 3)
    one_more k p q m M R a b c = omega arith

-- gates of the cells
pub cells-length : (x : ℕ) (xs : List ℕ) (l h next : ℕ) → length (cells (x ∷ xs) l h next) ≤ suc (length xs) * (length xs + 4)
cells-length x xs l h next =
    let i = levels-length xs (down l) (down h) (first_wire l x next) x (pos l + pos (down h) - 1) (next + pos l) x 1 (omega (arith, pos_le l, pos_le (down h))) in
    simp (length-append, length-first) (one_more (length xs) (pos l) _ (pos_le l) i)
  where
    one_more : (k p R : ℕ) → p ≤ 1 → R ≤ k * (1 + k + 3) → p + R ≤ suc k * (k + 4)
    one_more k p R a b = omega arith
