-- What the levels compute, over any way of reading gates.
use mathlib.Core.Path.{◌≡◌, refl, sym, ap, ◌∙◌, subst}
use mathlib.Core.List.{List, [], ◌∷◌, ◌++◌, append_assoc, append-nil, map}
use Prim.Native.Nat.{ℕ, zero, suc, ◌+◌, ◌-◌, ◌*◌, ◌≤◌, ◌<◌, max}
use native.Mathlib.Omega.{arith}
use lib.ListN.{length, get_or, length-append, get_or-append}
use lib.Seq.{get_or_at}
use Rattle.netlist.specs.declared.gate.Gate.{Gate}
use Rattle.netlist.specs.Net.{Alg, at, run, Below}
use Rattle.netlist.proofs.Sim.{run-append}
use Rattle.netlist.proofs.Glued.{map_agree}
use Rattle.cells.specs.InnerLoop.{pos, down, tail, low_gates, sum_gates, levels, first_gates, first_wire, cells}

-- cells enough for a level leave cells enough for the next
pub cells_left : (k l h m : ℕ) → suc k ≤ m + l + max h 1 → 0 < k → 1 ≤ pos l + m + pos (down h)
cells_left k zero zero m e p = omega arith
cells_left k zero (suc zero) m e p = omega arith
cells_left k zero (suc (suc h)) m e p = omega arith
cells_left k (suc l) zero m e p = omega arith
cells_left k (suc l) (suc zero) m e p = omega arith
cells_left k (suc l) (suc (suc h)) m e p = omega arith

pub enough_next : (k l h m : ℕ) → suc k ≤ m + l + max h 1 → k ≤ (pos l + m + pos (down h) - 1) + down l + max (down h) 1
enough_next k zero zero m e = omega arith
enough_next k zero (suc zero) m e = omega arith
enough_next k zero (suc (suc h)) m e = omega arith
enough_next k (suc l) zero m e = omega arith
enough_next k (suc l) (suc zero) m e = omega arith
enough_next k (suc l) (suc (suc h)) m e = omega arith

pub first_wire_in : (l x next len : ℕ) → x < len → next ≡ len → first_wire l x next < len + pos l
first_wire_in zero x next len hx en = omega arith
first_wire_in (suc l) x next len hx en = omega arith

pub first_enough : (k l h : ℕ) → suc k ≤ l + max h 1 → k ≤ (pos l + pos (down h) - 1) + down l + max (down h) 1
first_enough k zero zero f = omega arith
first_enough k zero (suc zero) f = omega arith
first_enough k zero (suc (suc h)) f = omega arith
first_enough k (suc l) zero f = omega arith
first_enough k (suc l) (suc zero) f = omega arith
first_enough k (suc l) (suc (suc h)) f = omega arith

pub pos-down : (h : ℕ) → pos (down h) ≤ pos h
pos-down zero = omega arith
pos-down (suc zero) = omega arith
pos-down (suc (suc n)) = omega arith

pub pos_le : (n : ℕ) → pos n ≤ 1
pos_le zero = omega arith
pos_le (suc n) = omega arith

pub below_more : (xs : List ℕ) (n m : ℕ) → n ≤ m → Below n xs → Below m xs
below_more [] n m h b = tt
below_more (x ∷ xs) n m h b = (omega (arith, b.0), below_more xs n m h b.1)

module _ {Val : Type 0} (A : Alg Val) where
  -- the m wires from s on
  abbrev pub row : List Val → ℕ → ℕ → List Val
  row env s zero = []
  row env s (suc m) = at A env s ∷ row env (s + 1) m

  abbrev pub muxes_from : Val → Val → List Val → List Val
  muxes_from x p [] = []
  muxes_from x p (v ∷ vs) = A.mux x v p ∷ muxes_from x v vs

  abbrev pub muxes : Val → List Val → List Val
  muxes x [] = []
  muxes x (p ∷ vs) = muxes_from x p vs

  abbrev pub last_from : Val → List Val → Val
  last_from p [] = p
  last_from p (v ∷ vs) = last_from v vs

  abbrev pub last_of : List Val → Val
  last_of [] = A.none
  last_of (p ∷ vs) = last_from p vs

  at-append : (env ys : List Val) (w : ℕ) → w < length env → at A (env ++ ys) w ≡ at A env w
  at-append env ys w h = get_or-append env ys A.none w h

  at_seam : (env : List Val) (y : Val) (ys : List Val) (w : ℕ) → w ≡ length env → at A (env ++ y ∷ ys) w ≡ y
  at_seam env y ys w e = get_or_at env y ys A.none w (sym e)

  row-append : (env ys : List Val) (m s : ℕ) → s + m ≤ length env → row (env ++ ys) s m ≡ row env s m
  row-append env ys zero s h = refl
  row-append env ys (suc m) s h = rw (at-append env ys s (omega arith), row-append env ys m (s + 1) (omega arith))

  -- the row that stands in the middle
  pub row_mid : (q p r : List Val) (w : ℕ) → w ≡ length p → row (p ++ (q ++ r)) w (length q) ≡ q
  row_mid [] p r w e = refl
  row_mid (v ∷ q) p r w e =
      rw (at_seam p v (q ++ r) w e)
      (ap (λ (t : List Val). v ∷ t)
      (ap (λ (env : List Val). row env (w + 1) (length q)) (sym (append_snoc' p v (q ++ r)))
      ∙ row_mid q (p ++ (v ∷ [])) r (w + 1) (rw (length-append p (v ∷ [])) (omega (arith, e)))))
    where
      append_snoc' : (xs : List Val) (a : Val) (ys : List Val) → (xs ++ (a ∷ [])) ++ ys ≡ xs ++ (a ∷ ys)
      append_snoc' xs a ys = append_assoc xs (a ∷ []) ys

  pub tail-run : (m x a s : ℕ) (env : List Val) → x < length env → a < length env → s + m ≤ length env
      → run A env (tail x a s m) ≡ env ++ (muxes_from (at A env x) (at A env a) (row env s m) ++ (A.and (last_from (at A env a) (row env s m)) (at A env x) ∷ []))
  tail-run zero x a s env hx ha hs = refl
  tail-run (suc m) x a s env hx ha hs =
      let v : Val = A.mux (at A env x) (at A env s) (at A env a) in
      let e1 = at-append env (v ∷ []) x hx in
      let e2 = at-append env (v ∷ []) s (omega arith) in
      let e3 = row-append env (v ∷ []) m (s + 1) (omega arith) in
      let l : length (env ++ (v ∷ [])) ≡ length env + 1 = length-append env (v ∷ []) in
      tail-run m x s (s + 1) (env ++ (v ∷ [])) (omega arith) (omega arith) (omega arith)
      ∙ rw (e1, e2, e3) (append_assoc env (v ∷ []) _)

  abbrev pub low_not : ℕ → Val → List Val
  low_not zero x = []
  low_not (suc l) x = A.neg x ∷ []

  abbrev pub low_and : ℕ → Val → List Val → List Val
  low_and zero x r = []
  low_and (suc l) x r = A.and (get_or r 0 A.none) (A.neg x) ∷ []

  -- the last AND, where it is a cell, and where it is not
  abbrev pub top_cell : ℕ → Val → List Val
  top_cell zero t = []
  top_cell (suc zero) t = []
  top_cell (suc (suc h)) t = t ∷ []

  abbrev pub top_rest : ℕ → Val → Val → List Val
  top_rest zero t s = t ∷ A.xor t s ∷ []
  top_rest (suc zero) t s = t ∷ []
  top_rest (suc (suc h)) t s = []

  abbrev pub new_sum : ℕ → Val → Val → Val
  new_sum zero t s = A.xor t s
  new_sum (suc h) t s = t

  abbrev pub top : Val → List Val → Val
  top x r = A.and (last_of r) x

  abbrev pub new_row : ℕ → ℕ → Val → List Val → List Val
  new_row l h x r = low_and l x r ++ (muxes x r ++ top_cell h (top x r))

  -- the values of the levels' gates, in order: l and h as in `levels`, the row before, the sum, the inputs
  abbrev pub trace : ℕ → ℕ → List Val → Val → List Val → List Val
  trace l h r s [] = []
  trace l h r s (x ∷ xs) =
      low_not l x ++ (new_row l h x r ++ (top_rest h (top x r) s
      ++ trace (down l) (down h) (new_row l h x r) (new_sum h (top x r) s) xs))

  low_run : (l x a next : ℕ) (env : List Val) (r : List Val) → next ≡ length env → a < length env → at A env a ≡ get_or r 0 A.none
      → run A env (low_gates l x a next) ≡ env ++ (low_not l (at A env x) ++ low_and l (at A env x) r)
  low_run zero x a next env r e ha er = sym (append-nil env)
  low_run (suc l) x a next env r e ha er =
      let n : Val = A.neg (at A env x) in
      ap (λ (u : Val). (env ++ (n ∷ [])) ++ (A.and u (at A (env ++ (n ∷ [])) next) ∷ [])) (at-append env (n ∷ []) a ha ∙ er)
      ∙ ap (λ (u : Val). (env ++ (n ∷ [])) ++ (A.and (get_or r 0 A.none) u ∷ [])) (at_seam env n [] next e)
      ∙ append_assoc env (n ∷ []) _

  length-muxes_from : (x p : Val) (vs : List Val) → length (muxes_from x p vs) ≡ length vs
  length-muxes_from x p [] = refl
  length-muxes_from x p (v ∷ vs) = ap suc (length-muxes_from x v vs)

  length-row : (env : List Val) (m s : ℕ) → length (row env s m) ≡ m
  length-row env zero s = refl
  length-row env (suc m) s = ap suc (length-row env m (s + 1))

  -- ---- one level
  abbrev sum_s : ℕ → Val → Val → List Val
  sum_s zero t s = A.xor t s ∷ []
  sum_s (suc h) t s = []

  sum-run : (h t sm : ℕ) (env : List Val) → run A env (sum_gates h t sm) ≡ env ++ sum_s h (at A env t) (at A env sm)
  sum-run zero t sm env = refl
  sum-run (suc h) t sm env = sym (append-nil env)

  compose : (G1 G2 G3 rest : List Gate) (env L T S : List Val) → run A env G1 ≡ env ++ L → run A (env ++ L) G2 ≡ (env ++ L) ++ T
      → run A ((env ++ L) ++ T) G3 ≡ ((env ++ L) ++ T) ++ S → run A env (G1 ++ (G2 ++ (G3 ++ rest))) ≡ run A (((env ++ L) ++ T) ++ S) rest
  compose G1 G2 G3 rest env L T S e1 e2 e3 =
      run-append A env G1 (G2 ++ (G3 ++ rest)) ∙ ap (λ (z : List Val). run A z (G2 ++ (G3 ++ rest))) e1
      ∙ run-append A (env ++ L) G2 (G3 ++ rest) ∙ ap (λ (z : List Val). run A z (G3 ++ rest)) e2
      ∙ run-append A ((env ++ L) ++ T) G3 rest ∙ ap (λ (z : List Val). run A z rest) e3

  regroup : (h : ℕ) (t s : Val) (env N D M : List Val)
      → ((env ++ (N ++ D)) ++ (M ++ (t ∷ []))) ++ sum_s h t s ≡ env ++ (N ++ ((D ++ (M ++ top_cell h t)) ++ top_rest h t s))
  regroup zero t s env N D M = simp (append_assoc, append-nil)
  regroup (suc zero) t s env N D M = simp (append_assoc, append-nil)
  regroup (suc (suc h)) t s env N D M = simp (append_assoc, append-nil)

  at_by : (zs p : List Val) (v : Val) (w : ℕ) → zs ≡ p ++ (v ∷ []) → w ≡ length p → at A zs w ≡ v
  at_by zs p v w e l = ap (λ (z : List Val). at A z w) e ∙ at_seam p v [] w l

  sum-at : (h w : ℕ) (t s : Val) (env N D M : List Val) → w ≡ length env + length N + length D + length M + 1 - pos h
      → at A (env ++ (N ++ ((D ++ (M ++ top_cell h t)) ++ top_rest h t s))) w ≡ new_sum h t s
  sum-at zero w t s env N D M e =
      at_by (env ++ (N ++ ((D ++ (M ++ top_cell zero t)) ++ top_rest zero t s))) (env ++ (N ++ (D ++ (M ++ (t ∷ []))))) (A.xor t s) w (simp (append_assoc, append-nil)) (simp length-append (omega arith))
  sum-at (suc zero) w t s env N D M e =
      at_by (env ++ (N ++ ((D ++ (M ++ top_cell (suc zero) t)) ++ top_rest (suc zero) t s))) (env ++ (N ++ (D ++ M))) t w (simp (append_assoc, append-nil)) (simp length-append (omega arith))
  sum-at (suc (suc h)) w t s env N D M e =
      at_by (env ++ (N ++ ((D ++ (M ++ top_cell (suc (suc h)) t)) ++ top_rest (suc (suc h)) t s))) (env ++ (N ++ (D ++ M))) t w (simp (append_assoc, append-nil)) (simp length-append (omega arith))

  length-low_not : (l : ℕ) (x : Val) → length (low_not l x) ≡ pos l
  length-low_not zero x = refl
  length-low_not (suc l) x = refl

  length-low_and : (l : ℕ) (x : Val) (r : List Val) → length (low_and l x r) ≡ pos l
  length-low_and zero x r = refl
  length-low_and (suc l) x r = refl

  -- ---- all levels
  length-new_row : (l h : ℕ) (x p : Val) (vs : List Val) → length (new_row l h x (p ∷ vs)) ≡ pos l + length vs + pos (down h)
  length-new_row l zero x p vs = simp (length-append, length-low_and, length-muxes_from) (omega arith)
  length-new_row l (suc zero) x p vs = simp (length-append, length-low_and, length-muxes_from) (omega arith)
  length-new_row l (suc (suc h)) x p vs = simp (length-append, length-low_and, length-muxes_from) (omega arith)

  length_level_vals : (l h : ℕ) (x p s : Val) (vs : List Val)
      → length (low_not l x ++ (new_row l h x (p ∷ vs) ++ top_rest h (top x (p ∷ vs)) s)) ≡ 2 * pos l + length vs + 2 - pos h
  length_level_vals l zero x p s vs = simp (length-append, length-low_not, length-low_and, length-muxes_from) (omega arith)
  length_level_vals l (suc zero) x p s vs = simp (length-append, length-low_not, length-low_and, length-muxes_from) (omega arith)
  length_level_vals l (suc (suc h)) x p s vs = simp (length-append, length-low_not, length-low_and, length-muxes_from) (omega arith)

  module _ (x l h a s m next sm : ℕ) (env : List Val) (X P S : Val) (VS : List Val) (hx : x < length env) (en : next ≡ length env) (hsm : sm < length env) (ha : a < length env)
      (hs : s + m ≤ length env) (eX : at A env x ≡ X) (eP : at A env a ≡ P) (eS : at A env sm ≡ S) (eV : row env s m ≡ VS) where
    low_part : run A env (low_gates l x a next) ≡ env ++ (low_not l X ++ low_and l X (P ∷ VS))
    low_part = rw eX at (low_run l x a next env (P ∷ VS) en ha eP)

    tail-part : (L : List Val) → run A (env ++ L) (tail x a s m) ≡ (env ++ L) ++ (muxes_from X P VS ++ (top X (P ∷ VS) ∷ []))
    tail-part L =
        let n : length (env ++ L) ≡ length env + length L = length-append env L in
        rw (at-append env L x hx, at-append env L a ha, row-append env L m s hs, eX, eP, eV) at (tail-run m x a s (env ++ L) (omega arith) (omega arith) (omega arith))

    sum-part : (L M : List Val) (t : Val) → length L ≡ 2 * pos l → length M ≡ m
        → run A ((env ++ L) ++ (M ++ (t ∷ []))) (sum_gates h (next + 2 * pos l + m) sm) ≡ ((env ++ L) ++ (M ++ (t ∷ []))) ++ sum_s h t S
    sum-part L M t nl nm =
        let n : length (env ++ L) ≡ length env + length L = length-append env L in
        let e1 : at A ((env ++ L) ++ (M ++ (t ∷ []))) (next + 2 * pos l + m) ≡ t =
        at_by ((env ++ L) ++ (M ++ (t ∷ []))) ((env ++ L) ++ M) t (next + 2 * pos l + m) (simp append_assoc) (simp length-append (omega arith)) in
        let e2 : at A ((env ++ L) ++ (M ++ (t ∷ []))) sm ≡ S = at-append (env ++ L) (M ++ (t ∷ [])) sm (omega arith) ∙ at-append env L sm hsm ∙ eS in
        rw (e1, e2) at (sum-run h (next + 2 * pos l + m) sm ((env ++ L) ++ (M ++ (t ∷ []))))

    level_run : (rest : List Gate) → run A env (low_gates l x a next ++ (tail x a s m ++ (sum_gates h (next + 2 * pos l + m) sm ++ rest)))
        ≡ run A (env ++ (low_not l X ++ (new_row l h X (P ∷ VS) ++ top_rest h (top X (P ∷ VS)) S))) rest
    level_run rest =
        let nv : length VS ≡ m = ap length (sym eV) ∙ length-row env m s in
        let nl : length (low_not l X ++ low_and l X (P ∷ VS)) ≡ 2 * pos l = simp (length-append, length-low_not, length-low_and) (omega arith) in
        let nm : length (muxes_from X P VS) ≡ m = length-muxes_from X P VS ∙ nv in
        compose (low_gates l x a next) (tail x a s m) (sum_gates h (next + 2 * pos l + m) sm) rest env (low_not l X ++ low_and l X (P ∷ VS)) (muxes_from X P VS ++ (top X (P ∷ VS) ∷ []))
        (sum_s h (top X (P ∷ VS)) S) low_part (tail-part (low_not l X ++ low_and l X (P ∷ VS)))
        (sum-part (low_not l X ++ low_and l X (P ∷ VS)) (muxes_from X P VS) (top X (P ∷ VS)) nl nm)
        ∙ ap (λ (z : List Val). run A z rest) (regroup h (top X (P ∷ VS)) S env (low_not l X) (low_and l X (P ∷ VS)) (muxes_from X P VS))

  vals-append : (xs : List ℕ) (env ys : List Val) → Below (length env) xs → map (at A (env ++ ys)) xs ≡ map (at A env) xs
  vals-append xs env ys b = map_agree (at A (env ++ ys)) (at A env) (length env) xs b (at-append env ys)

  -- where a run of levels may begin: the inputs, the sum and the row r before it stand in env, and there are cells enough for the levels
  pub record CellsReady (xs : List ℕ) (l h a s m next sm : ℕ) (env r : List Val) : Type 0 where
    pub inputs : Below (length env) xs
    pub here : next ≡ length env
    pub sum_in : sm < length env
    pub a_in : 0 < length xs → a < length env
    pub s_in : 0 < length xs → (s + m ≤ length env)
    pub row_is : 0 < length xs → at A env a ∷ row env s m ≡ r
    pub enough : length xs ≤ m + l + max h 1

  -- a level leaves a row that the next can take
  ready_next : (x : ℕ) (xs : List ℕ) (l h a s m next sm : ℕ) (env r : List Val) (X P S : Val) (VS : List Val) → CellsReady (x ∷ xs) l h a s m next sm env r → length VS ≡ m
      → CellsReady xs (down l) (down h) (next + pos l) (next + pos l + 1) (pos l + m + pos (down h) - 1) (next + 2 * pos l + m + 2 - pos h) (next + 2 * pos l + m + 1 - pos h)
      (env ++ (low_not l X ++ (new_row l h X (P ∷ VS) ++ top_rest h (top X (P ∷ VS)) S))) (new_row l h X (P ∷ VS))
  ready_next x xs l h a s m next sm env r X P S VS c nv =
      let nl = length_level_vals l h X P S VS in
      let na = length-append env (low_not l X ++ (new_row l h X (P ∷ VS) ++ top_rest h (top X (P ∷ VS)) S)) in
      let nr = length-new_row l h X P VS in
      let p1 = pos_le l in let p2 = pos_le h in let p5 = pos_le (down h) in
      record {
        inputs = below_more xs (length env) (length (env ++ (low_not l X ++ (new_row l h X (P ∷ VS) ++ top_rest h (top X (P ∷ VS)) S)))) (omega arith) c.inputs.1;
        here = omega (arith, c.here);
        sum_in = omega (arith, c.here);
        a_in = λ hk. let y = cells_left (length xs) l h m c.enough hk in omega (arith, c.here);
        s_in = λ hk. let y = cells_left (length xs) l h m c.enough hk in omega (arith, c.here, pos-down h);
        row_is = λ hk.
            let y = cells_left (length xs) l h m c.enough hk in
            let many : length (new_row l h X (P ∷ VS)) ≡ suc (pos l + m + pos (down h) - 1) = omega arith in
            rw many at (mid (low_not l X) (new_row l h X (P ∷ VS)) (top_rest h (top X (P ∷ VS)) S) (next + pos l) (omega (arith, c.here, length-low_not l X)));
        enough = enough_next (length xs) l h m c.enough;
      }
    where
      mid : (p q z : List Val) (w : ℕ) → w ≡ length env + length p → row (env ++ (p ++ (q ++ z))) w (length q) ≡ q
      mid p q z w e = rw (← append_assoc env p (q ++ z)) (row_mid q (env ++ p) z w (e ∙ sym (length-append env p)))

  pub wiring : (xs : List ℕ) (l h a s m next sm : ℕ) (env r : List Val) → CellsReady xs l h a s m next sm env r
      → run A env (levels xs l h a s m next sm) ≡ env ++ trace l h r (at A env sm) (map (at A env) xs)
  wiring [] l h a s m next sm env r c = sym (append-nil env)
  wiring (x ∷ xs) l h a s m next sm env r c =
      subst (λ (z : List Val). run A env (levels (x ∷ xs) l h a s m next sm) ≡ env ++ trace l h z S (X ∷ map (at A env) xs)) (c.row_is (omega arith))
      (level_run x l h a s m next sm env X P S VS c.inputs.0 c.here c.sum_in (c.a_in (omega arith)) (c.s_in (omega arith)) refl refl refl refl
      (levels xs (down l) (down h) (next + pos l) (next + pos l + 1) (pos l + m + pos (down h) - 1) (next + 2 * pos l + m + 2 - pos h) (next + 2 * pos l + m + 1 - pos h))
      ∙ wiring xs (down l) (down h) (next + pos l) (next + pos l + 1) (pos l + m + pos (down h) - 1) (next + 2 * pos l + m + 2 - pos h) (next + 2 * pos l + m + 1 - pos h)
      (env ++ LV) (new_row l h X (P ∷ VS)) (ready_next x xs l h a s m next sm env r X P S VS c (length-row env m s))
      ∙ ap (λ (v : Val). (env ++ LV) ++ trace (down l) (down h) (new_row l h X (P ∷ VS)) v (map (at A (env ++ LV)) xs)) sum_is
      ∙ ap (λ (v : List Val). (env ++ LV) ++ trace (down l) (down h) (new_row l h X (P ∷ VS)) (new_sum h (top X (P ∷ VS)) S) v) (vals-append xs env LV c.inputs.1)
      ∙ regroup' (low_not l X) (new_row l h X (P ∷ VS)) (top_rest h (top X (P ∷ VS)) S) (trace (down l) (down h) (new_row l h X (P ∷ VS)) (new_sum h (top X (P ∷ VS)) S) (map (at A env) xs)))
    where
      X : Val
      X = at A env x

      P : Val
      P = at A env a

      S : Val
      S = at A env sm

      VS : List Val
      VS = row env s m

      LV : List Val
      LV = low_not l X ++ (new_row l h X (P ∷ VS) ++ top_rest h (top X (P ∷ VS)) S)

      sum_is : at A (env ++ LV) (next + 2 * pos l + m + 1 - pos h) ≡ new_sum h (top X (P ∷ VS)) S
      sum_is = sum-at h (next + 2 * pos l + m + 1 - pos h) (top X (P ∷ VS)) S env (low_not l X) (low_and l X (P ∷ VS)) (muxes_from X P VS)
          (omega (arith, c.here, length-low_not l X, length-low_and l X (P ∷ VS), length-muxes_from X P VS, length-row env m s))

      regroup' : (p q z w : List Val) → (env ++ (p ++ (q ++ z))) ++ w ≡ env ++ (p ++ (q ++ (z ++ w)))
      regroup' p q z w = simp append_assoc

  -- ---- the row and the sum after the last level, and where the trace has them
  abbrev pub end_row : ℕ → ℕ → List Val → List Val → List Val
  end_row l h r [] = r
  end_row l h r (x ∷ xs) = end_row (down l) (down h) (new_row l h x r) xs

  abbrev pub end_sum : ℕ → ℕ → List Val → Val → List Val → Val
  end_sum l h r s [] = s
  end_sum l h r s (x ∷ xs) = end_sum (down l) (down h) (new_row l h x r) (new_sum h (top x r) s) xs

  pub last_from-append : (p q : List Val) (d : Val) → last_from d (p ++ q) ≡ last_from (last_from d p) q
  last_from-append [] q d = refl
  last_from-append (v ∷ p) q d = last_from-append p q v

  last_level : (h : ℕ) (t s d : Val) (N D M : List Val) → last_from d (N ++ ((D ++ (M ++ top_cell h t)) ++ top_rest h t s)) ≡ new_sum h t s
  last_level zero t s d N D M = simp last_from-append
  last_level (suc zero) t s d N D M = simp last_from-append
  last_level (suc (suc h)) t s d N D M = simp last_from-append

  pub trace_last : (xs : List Val) (l h : ℕ) (r : List Val) (s : Val) → last_from s (trace l h r s xs) ≡ end_sum l h r s xs
  trace_last [] l h r s = refl
  trace_last (x ∷ xs) l h r s =
      ap (last_from s) (assoc3 (low_not l x) (new_row l h x r) (top_rest h (top x r) s) (trace (down l) (down h) (new_row l h x r) (new_sum h (top x r) s) xs))
      ∙ last_from-append (low_not l x ++ (new_row l h x r ++ top_rest h (top x r) s)) (trace (down l) (down h) (new_row l h x r) (new_sum h (top x r) s) xs) s
      ∙ ap (λ (d : Val). last_from d (trace (down l) (down h) (new_row l h x r) (new_sum h (top x r) s) xs)) (last_level h (top x r) s s (low_not l x) (low_and l x r) (muxes x r))
      ∙ trace_last xs (down l) (down h) (new_row l h x r) (new_sum h (top x r) s)
    where
      assoc3 : (p q z w : List Val) → p ++ (q ++ (z ++ w)) ≡ (p ++ (q ++ z)) ++ w
      assoc3 p q z w = simp append_assoc

  -- of one level or more, whatever stood before
  pub trace_last' : (x : Val) (xs : List Val) (l h : ℕ) (r : List Val) (s d : Val) → last_from d (trace l h r s (x ∷ xs)) ≡ end_sum l h r s (x ∷ xs)
  trace_last' x xs l h r s d =
      last_from-append (low_not l x) (new_row l h x r ++ (top_rest h (top x r) s ++ TR)) d
      ∙ last_from-append (new_row l h x r) (top_rest h (top x r) s ++ TR) (last_from d (low_not l x))
      ∙ last_from-append (top_rest h (top x r) s) TR (last_from (last_from d (low_not l x)) (new_row l h x r))
      ∙ ap (λ (z : Val). last_from z TR) (sym (last_from-append (new_row l h x r) (top_rest h (top x r) s) (last_from d (low_not l x)))
      ∙ sym (last_from-append (low_not l x) (new_row l h x r ++ top_rest h (top x r) s) d)
      ∙ last_level h (top x r) s d (low_not l x) (low_and l x r) (muxes x r))
      ∙ trace_last xs (down l) (down h) (new_row l h x r) (new_sum h (top x r) s)
    where
      TR : List Val
      TR = trace (down l) (down h) (new_row l h x r) (new_sum h (top x r) s) xs

  -- where every level keeps its last cell, the last row ends the trace
  pub trace-row : (xs : List Val) (l h : ℕ) (r : List Val) (s : Val) (v : Val) → length xs + 2 ≤ h
      → (pre : List Val) × (trace l h r s (v ∷ xs) ≡ pre ++ end_row l h r (v ∷ xs))
  trace-row xs l zero r s v e = absurd (omega arith)
  trace-row xs l (suc zero) r s v e = absurd (omega arith)
  trace-row [] l (suc (suc h)) r s v e = (low_not l v, ap (λ (z : List Val). low_not l v ++ z) (append-nil _))
  trace-row (w ∷ xs) l (suc (suc h)) r s v e =
      let i = trace-row xs (down l) (suc h) (new_row l (suc (suc h)) v r) (new_sum (suc (suc h)) (top v r) s) w (omega arith) in
      ((low_not l v ++ new_row l (suc (suc h)) v r) ++ i.0, ap (λ (z : List Val). low_not l v ++ (new_row l (suc (suc h)) v r ++ z)) i.1 ∙ simp append_assoc)

  -- ---- level 1
  abbrev pub first_row : ℕ → ℕ → Val → List Val
  first_row l h x = low_not l x ++ top_cell h x

  first_run : (l x : ℕ) (env : List Val) → run A env (first_gates l x) ≡ env ++ low_not l (at A env x)
  first_run zero x env = sym (append-nil env)
  first_run (suc l) x env = refl

  first-row_is : (k l h next x : ℕ) (env : List Val) → x < length env → next ≡ length env → suc k ≤ l + max h 1 → 0 < k
      → at A (env ++ low_not l (at A env x)) (first_wire l x next) ∷ row (env ++ low_not l (at A env x)) x (pos l + pos (down h) - 1) ≡ first_row l h (at A env x)
  first-row_is k zero zero next x env hx en f hk = absurd (omega arith)
  first-row_is k zero (suc zero) next x env hx en f hk = absurd (omega arith)
  first-row_is k zero (suc (suc h)) next x env hx en f hk = rw (at-append env [] x hx)
  first-row_is k (suc l) zero next x env hx en f hk = rw (at_seam env (A.neg (at A env x)) [] next en)
  first-row_is k (suc l) (suc zero) next x env hx en f hk = rw (at_seam env (A.neg (at A env x)) [] next en)
  first-row_is k (suc l) (suc (suc h)) next x env hx en f hk = rw (at_seam env (A.neg (at A env x)) [] next en, at-append env (A.neg (at A env x) ∷ []) x hx)

  -- all wires of the cells' gates, behind any wires
  pub cells-run : (x : ℕ) (xs : List ℕ) (l h next : ℕ) (env : List Val) → x < length env → Below (length env) xs → next ≡ length env → suc (length xs) ≤ l + max h 1
      → run A env (cells (x ∷ xs) l h next) ≡ (env ++ low_not l (at A env x)) ++ trace (down l) (down h) (first_row l h (at A env x)) (at A env x) (map (at A env) xs)
  cells-run x xs l h next env hx b en f =
      let n : length (env ++ low_not l (at A env x)) ≡ length env + pos l = length-append env (low_not l (at A env x)) ∙ ap (λ (i : ℕ). length env + i) (length-low_not l (at A env x)) in
      let p1 = pos_le l in let p2 = pos_le (down h) in
      run-append A env (first_gates l x) (levels xs (down l) (down h) (first_wire l x next) x (pos l + pos (down h) - 1) (next + pos l) x)
      ∙ ap (λ (z : List Val). run A z (levels xs (down l) (down h) (first_wire l x next) x (pos l + pos (down h) - 1) (next + pos l) x)) (first_run l x env)
      ∙ wiring xs (down l) (down h) (first_wire l x next) x (pos l + pos (down h) - 1) (next + pos l) x (env ++ low_not l (at A env x)) (first_row l h (at A env x))
      (record {
        inputs = below_more xs (length env) (length (env ++ low_not l (at A env x))) (omega arith) b;
        here = omega arith;
        sum_in = omega arith;
        a_in = λ hk. rw n (first_wire_in l x next (length env) hx en);
        s_in = λ hk. omega arith;
        row_is = λ hk. first-row_is (length xs) l h next x env hx en f hk;
        enough = first_enough (length xs) l h f;
      })
      ∙ ap (λ (z : Val). (env ++ low_not l (at A env x)) ++ trace (down l) (down h) (first_row l h (at A env x)) z (map (at A (env ++ low_not l (at A env x))) xs)) (at-append env (low_not l (at A env x)) x hx)
      ∙ ap (λ (z : List Val). (env ++ low_not l (at A env x)) ++ trace (down l) (down h) (first_row l h (at A env x)) (at A env x) z) (vals-append xs env (low_not l (at A env x)) b)
