-- The gates of specs/Cells.antt are those of specs/InnerLoop.antt, level by level.
use Prim.Native.Nat.{ℕ, zero, suc, ◌+◌, ◌-◌, ◌*◌, ◌≤◌, ◌<◌, min}
use mathlib.Core.Path.{◌≡◌, refl, sym, ap, ap₂, ◌∙◌}
use mathlib.Core.Bool.{Bool, true, false}
use mathlib.Core.List.{List, [], ◌∷◌, ◌++◌, append_assoc, append-nil}
use native.Mathlib.Omega.{arith}
use borrow.Author.Tests.{eq-eqb, ne_eqb, lt-ltb, le-ltb}
use lib.ListN.{length, length-append}
use lib.Dec.{eqb}
use Rattle.answer.specs.Choose.{choose}
use Rattle.netlist.specs.declared.gate.Gate.{Gate}
use Rattle.netlist.specs.declared.gate.Gate.TheVariants.{Zero, Not, Xor, And, Mux}
use Rattle.netlist.specs.Part.{Part}
use Rattle.netlist.specs.Glue.{up_from}
use Rattle.netlist.proofs.Glued.{up_from-length, net_eq}
use Rattle.cells.specs.Cells as C
use Rattle.cells.specs.Cells.{Kept, CellLevel, cell_gates, row_gates, level_gates, level_after, levels_gates, levels_end, all_gates, last_level}
use Rattle.cells.proofs.Samples.{one_of_one}
use Rattle.cells.specs.InnerLoop.{pos, down, tail, low_gates, sum_gates, levels, first_gates, first_wire, cells}

-- the cells over the row before it, whose cells j, j + 1, .. j + m stand at wires a, s, s + 1, ..
pub record CellRows (b : ℕ → ℕ) (j a s m : ℕ) : Type 0 where
  pub first : b j ≡ a
  pub rest : (k : ℕ) → k < m → b (suc j + k) ≡ s + k

rows_next : (b : ℕ → ℕ) (j a s m : ℕ) → CellRows b j a s (suc m) → CellRows b (suc j) s (s + 1) m
rows_next b j a s m r =
    let z : suc j ≡ suc j + 0 = omega arith in
    record {
      first = ap b z ∙ r.rest 0 (omega arith) ∙ omega arith;
      rest = λ k h. let e : suc (suc j) + k ≡ suc j + suc k = omega arith in ap b e ∙ r.rest (suc k) (omega arith) ∙ omega arith;
    }

low_cell : (i x : ℕ) (b : ℕ → ℕ) (w a l : ℕ) → b 0 ≡ a → cell_gates i x b w 0 ≡ low_gates (suc l) x a w
unfolding cell_gates
low_cell i x b w a l r = rw r

-- a cell over two neighbours
cell_mux : (i x : ℕ) (b : ℕ → ℕ) (w j a s m : ℕ) → CellRows b j a s (suc m) → suc j < i → cell_gates i x b w (suc j) ≡ Mux x s a ∷ []
unfolding cell_gates
cell_mux i x b w j a s m r h =
    let r' = rows_next b j a s m r in
    ap₂ (λ (p q : ℕ). choose (eqb (suc j) i) (And q x) (Mux x p q) ∷ []) r'.first r.first ∙ rw (ne_eqb (suc j) i (λ q. absurd (omega arith)))

cell_and : (i x : ℕ) (b : ℕ → ℕ) (w j a : ℕ) → b j ≡ a → i ≡ suc j → cell_gates i x b w (suc j) ≡ And a x ∷ []
unfolding cell_gates
cell_and i x b w j a r e = rw (eq-eqb (suc j) i (omega arith), r)

row_next : (i x : ℕ) (b : ℕ → ℕ) (w j n : ℕ) → row_gates i x b w j (suc n) ≡ cell_gates i x b w j ++ row_gates i x b (w + length (cell_gates i x b w j)) (suc j) n
unfolding row_gates
row_next i x b w j n = refl

row_none : (i x : ℕ) (b : ℕ → ℕ) (w j : ℕ) → row_gates i x b w j 0 ≡ []
unfolding row_gates
row_none i x b w j = refl

-- below level d the last cell is an AND
row_whole : (m i x : ℕ) (b : ℕ → ℕ) (w j a s : ℕ) → CellRows b j a s m → i ≡ suc (j + m) → row_gates i x b w (suc j) (suc m) ≡ tail x a s m
row_whole zero i x b w j a s r e =
    row_next i x b w (suc j) 0 ∙ ap₂ ◌++◌ (cell_and i x b w j a r.first (omega arith)) (row_none i x b _ (suc (suc j)))
row_whole (suc m) i x b w j a s r e =
    row_next i x b w (suc j) (suc m)
    ∙ ap₂ ◌++◌ (cell_mux i x b w j a s m r (omega arith)) (row_whole m i x b _ (suc j) s (s + 1) (rows_next b j a s m r) (omega arith))

-- from level d on it is the sum's
row_less : (m i x : ℕ) (b : ℕ → ℕ) (w j a s : ℕ) → CellRows b j a s m → j + m < i → row_gates i x b w (suc j) m ++ And (b (j + m)) x ∷ [] ≡ tail x a s m
row_less zero i x b w j a s r e =
    let z : j + 0 ≡ j = omega arith in
    ap₂ ◌++◌ (row_none i x b w (suc j)) (ap (λ (p : ℕ). And p x ∷ []) (ap b z ∙ r.first))
row_less (suc m) i x b w j a s r e =
    let z : j + suc m ≡ suc j + m = omega arith in
    let w' = w + length (cell_gates i x b w (suc j)) in
    ap₂ (λ (p : List Gate) (q : ℕ). p ++ And (b q) x ∷ []) (row_next i x b w (suc j) m) z
    ∙ append_assoc (cell_gates i x b w (suc j)) (row_gates i x b w' (suc (suc j)) m) _
    ∙ ap₂ ◌++◌ (cell_mux i x b w j a s m r (omega arith)) (row_less m i x b w' (suc j) s (s + 1) (rows_next b j a s m r) (omega arith))

-- cell 0 and its NOT stand before the others
row_low : (l i x : ℕ) (b : ℕ → ℕ) (w j a n : ℕ) → b j ≡ a → (0 < l → j ≡ 0)
    → (w' : ℕ) × (row_gates i x b w (suc j - pos l) (pos l + n) ≡ low_gates l x a w ++ row_gates i x b w' (suc j) n)
row_low zero i x b w j a n r h =
    let z : 0 + n ≡ n = omega arith in
    let y : suc j - 0 ≡ suc j = omega arith in
    (w, ap₂ (row_gates i x b w) y z)
row_low (suc l) i x b w j a n r h =
    let z : 1 + n ≡ suc n = omega arith in
    let y : j ≡ 0 = h (omega arith) in
    let y' : suc j - 1 ≡ 0 = omega arith in
    let y'' : suc j ≡ 1 = omega arith in (
      w + length (cell_gates i x b w 0),
      ap₂ (row_gates i x b w) y' z ∙ row_next i x b w 0 n
          ∙ ap₂ (λ (p : List Gate) (q : ℕ). p ++ row_gates i x b (w + length (cell_gates i x b w 0)) q n) (low_cell i x b w a l (ap b (sym y) ∙ r)) (sym y''),
    )

row-length : (n i x : ℕ) (b : ℕ → ℕ) (w j : ℕ) → length (row_gates i x b w (suc j) n) ≡ n
unfolding row_gates cell_gates
row-length zero i x b w j = refl
row-length (suc n) i x b w j = ap suc (row-length n i x b _ (suc j))

pub length_low : (l x a next : ℕ) → length (low_gates l x a next) ≡ 2 * pos l
length_low zero x a next = refl
length_low (suc l) x a next = refl

pub length-tail : (m x a s : ℕ) → length (tail x a s m) ≡ m + 1
length-tail zero x a s = refl
length-tail (suc m) x a s = omega (arith, length-tail m x s (s + 1))

pub length-sum : (h t s : ℕ) → length (sum_gates h t s) ≡ 1 - pos h
length-sum zero t s = refl
length-sum (suc h) t s = refl

pub length-first : (l x : ℕ) → length (first_gates l x) ≡ pos l
length-first zero x = refl
length-first (suc l) x = refl

-- Before level i: levels up to q keep cell 0, l more of them; j is the first cell kept of the level before.
pub record Lows (q i l j : ℕ) : Type 0 where
  pub more : 0 < l → l + i ≡ suc q
  pub zeroth : 0 < l → j ≡ 0
  pub none : l ≡ 0 → i ≡ j + suc q

-- The sum begins at level c, h as in the loop; t is the last cell kept of the level before.
pub record Highs (c i h t : ℕ) : Type 0 where
  pub more : 0 < h → h + i ≡ suc c
  pub none : h ≡ 0 → c < i
  pub below : 1 < h → t + 1 ≡ i
  pub above : h ≤ 1 → t + 1 ≡ c

lows_next : (q i l j : ℕ) → Lows q i l j → Lows q (suc i) (down l) (suc j - pos l)
lows_next q i zero j c = record { more = λ e. absurd (omega arith); zeroth = λ e. absurd (omega arith); none = λ e. omega (arith, c.none refl) }
lows_next q i (suc l) j c =
    let a = c.more (omega arith) in
    let b = c.zeroth (omega arith) in
    record { more = λ e. omega arith; zeroth = λ e. omega arith; none = λ e. omega arith }

highs_next : (c i h t : ℕ) → Highs c i h t → Highs c (suc i) (down h) (t + pos (down h))
highs_next c i zero t k =
    record {
      more = λ e. absurd (omega arith);
      none = λ e. omega (arith, k.none refl);
      below = λ e. absurd (omega arith);
      above = λ e. omega (arith, k.above (omega arith));
    }
highs_next c i (suc zero) t k =
    record {
      more = λ e. absurd (omega arith);
      none = λ e. omega (arith, k.more (omega arith));
      below = λ e. absurd (omega arith);
      above = λ e. omega (arith, k.above (omega arith));
    }
highs_next c i (suc (suc h)) t k =
    let a = k.more (omega arith) in
    let b = k.below (omega arith) in
    record { more = λ e. omega arith; none = λ e. absurd (omega arith); below = λ e. omega arith; above = λ e. omega arith }

first_lows : (q : ℕ) → Lows q 2 (down q) (1 - q)
first_lows zero = record { more = λ e. absurd (omega arith); zeroth = λ e. absurd (omega arith); none = λ e. omega arith }
first_lows (suc q) = record { more = λ e. omega arith; zeroth = λ e. omega arith; none = λ e. omega arith }

first_highs : (c : ℕ) → 1 ≤ c → Highs c 2 (down c) (pos (down c))
first_highs zero h = absurd (omega arith)
first_highs (suc zero) h =
    record { more = λ e. absurd (omega arith); none = λ e. omega arith; below = λ e. absurd (omega arith); above = λ e. omega arith }
first_highs (suc (suc c)) h = record { more = λ e. omega arith; none = λ e. absurd (omega arith); below = λ e. omega arith; above = λ e. omega arith }

low_is : (q i l j : ℕ) → Lows q i l j → i - q ≡ suc j - pos l
low_is q i zero j c = omega (arith, c.none refl)
low_is q i (suc l) j c = omega (arith, c.more (omega arith), c.zeroth (omega arith))

high_is : (c i h t : ℕ) → Highs c i h t → min i (c - 1) ≡ t + pos (down h)
high_is c i zero t k = omega (arith, k.none refl, k.above (omega arith))
high_is c i (suc zero) t k = omega (arith, k.more (omega arith), k.above (omega arith))
high_is c i (suc (suc h)) t k = omega (arith, k.more (omega arith), k.below (omega arith))

-- a level with a level after it keeps a cell
keeps_one : (q c i l h j m : ℕ) → Lows q i l j → Highs c i h (j + m) → suc i ≤ q + c → 1 ≤ pos l + m + pos (down h)
keeps_one q c i (suc l) h j m a b e = omega arith
keeps_one q c i zero zero j m a b e = omega (arith, a.none refl, b.above (omega arith))
keeps_one q c i zero (suc zero) j m a b e = omega (arith, a.none refl, b.above (omega arith))
keeps_one q c i zero (suc (suc h)) j m a b e = omega arith

last_is : (q i l h j m : ℕ) → Lows q i l j → 1 ≤ pos l + m + pos (down h) → suc j - pos l + (pos l + m + pos (down h) - 1) ≡ j + m + pos (down h)
last_is q i zero h j m a e = omega arith
last_is q i (suc l) h j m a e = omega (arith, a.zeroth (omega arith))

kept_is : (q i l h j m : ℕ) → Lows q i l j → suc (j + m + pos (down h)) - (suc j - pos l) ≡ pos l + (m + pos (down h))
kept_is q i zero h j m a = omega arith
kept_is q i (suc l) h j m a = omega (arith, a.zeroth (omega arith))

not_is : (q i l j : ℕ) → Lows q i l j → choose (eqb (suc j - pos l) 0) 1 0 ≡ pos l
not_is q i zero j a = rw (ne_eqb (suc j - 0) 0 (λ e. absurd (omega arith)))
not_is q i (suc l) j a = rw (eq-eqb (suc j - 1) 0 (omega (arith, a.zeroth (omega arith))))

module _ (K : Kept) where
  sum_not : (i x w : ℕ) (L : CellLevel) → i < K.sum → C.sum_gates K i x L w ≡ []
  unfolding C.sum_gates
  sum_not i x w L h = rw (lt-ltb i K.sum h)

  sum_first : (i x w t : ℕ) (L : CellLevel) → i ≡ K.sum → t ≡ K.sum - 1 → C.sum_gates K i x L w ≡ And (L.cell t) x ∷ []
  unfolding C.sum_gates
  sum_first i x w t L h e = rw (le-ltb i K.sum (omega arith), eq-eqb i K.sum h, e)

  sum-later : (i x w t sum : ℕ) (L : CellLevel) → K.sum < i → t ≡ K.sum - 1 → L.sum ≡ sum → C.sum_gates K i x L w ≡ And (L.cell t) x ∷ Xor w sum ∷ []
  unfolding C.sum_gates
  sum-later i x w t sum L h e f = rw (le-ltb i K.sum (omega arith), ne_eqb i K.sum (λ q. absurd (omega arith)), e, f)

  -- a level from its second cell on
  level_top : (h i x j a s m sum v w t : ℕ) (L : CellLevel) → Highs K.sum i h (j + m) → CellRows L.cell j a s m → 1 ≤ i → (h ≡ 0 → L.sum ≡ sum) → (h ≡ 0 → w ≡ t)
      → row_gates i x L.cell v (suc j) (m + pos (down h)) ++ C.sum_gates K i x L w ≡ tail x a s m ++ sum_gates h t sum
  level_top zero i x j a s m sum v w t L k r p f g =
      let z : m + 0 ≡ m = omega arith in
      let above = k.above (omega arith) in
      let none = k.none refl in
      ap₂ ◌++◌ (ap (row_gates i x L.cell v (suc j)) z) (sum-later i x w (j + m) sum L none (omega arith) (f refl))
      ∙ sym (append_assoc (row_gates i x L.cell v (suc j) m) (And (L.cell (j + m)) x ∷ []) (Xor w sum ∷ []))
      ∙ ap₂ (λ (u : List Gate) (y : ℕ). u ++ Xor y sum ∷ []) (row_less m i x L.cell v j a s r (omega arith)) (g refl)
  level_top (suc zero) i x j a s m sum v w t L k r p f g =
      let z : m + 0 ≡ m = omega arith in
      let above = k.above (omega arith) in
      let more = k.more (omega arith) in
      ap₂ ◌++◌ (ap (row_gates i x L.cell v (suc j)) z) (sum_first i x w (j + m) L (omega arith) (omega arith))
      ∙ row_less m i x L.cell v j a s r (omega arith)
      ∙ sym (append-nil (tail x a s m))
  level_top (suc (suc h)) i x j a s m sum v w t L k r p f g =
      let z : m + 1 ≡ suc m = omega arith in
      let below = k.below (omega arith) in
      let more = k.more (omega arith) in
      ap₂ ◌++◌ (ap (row_gates i x L.cell v (suc j)) z ∙ row_whole m i x L.cell v j a s r (omega arith)) (sum_not i x w L (omega arith))

  open_level : (i x : ℕ) (L : CellLevel) (row : List Gate) → row_gates i x L.cell L.next (K.low i) (suc (K.high i) - K.low i) ≡ row
      → level_gates K i x L ≡ row ++ C.sum_gates K i x L (L.next + length row)
  unfolding level_gates
  open_level i x L row e = rw e

  -- one level
  level_same : (q i x l h j a s m next sum : ℕ) (L : CellLevel) → Lows q i l j → Highs K.sum i h (j + m) → CellRows L.cell j a s m → L.next ≡ next → (h ≡ 0 → L.sum ≡ sum)
      → 1 ≤ i → K.low i ≡ i - q → K.high i ≡ min i (K.sum - 1)
      → level_gates K i x L ≡ low_gates l x a next ++ (tail x a s m ++ sum_gates h (next + 2 * pos l + m) sum)
  level_same q i x l h j a s m next sum L cl ch r en es p lo hi =
      let b = L.cell in
      let e1 : K.low i ≡ suc j - pos l = lo ∙ low_is q i l j cl in
      let e2 : K.high i ≡ j + m + pos (down h) = hi ∙ high_is K.sum i h (j + m) ch in
      let e3 : suc (K.high i) - K.low i ≡ pos l + (m + pos (down h)) = rw (e1, e2) (kept_is q i l h j m cl) in
      let low = row_low l i x b L.next j a (m + pos (down h)) r.first cl.zeroth in
      let v = low.0 in
      let G = low_gates l x a L.next in
      let R = row_gates i x b v (suc j) (m + pos (down h)) in
      let row : row_gates i x b L.next (K.low i) (suc (K.high i) - K.low i) ≡ G ++ R = ap₂ (row_gates i x b L.next) e1 e3 ∙ low.1 in
      let len : length (G ++ R) ≡ 2 * pos l + (m + pos (down h)) = length-append G R ∙ ap₂ ◌+◌ (length_low l x a L.next) (row-length (m + pos (down h)) i x b v j) in
      open_level i x L (G ++ R) row
      ∙ append_assoc G R _
      ∙ ap₂ (λ (y : ℕ) (u : List Gate). low_gates l x a y ++ u) en
      (level_top h i x j a s m sum v _ (next + 2 * pos l + m) L ch r p es (λ h0. top_wire h L.next next l m (length (G ++ R)) h0 en len))
    where
      top_wire : (h y next l m n : ℕ) → h ≡ 0 → y ≡ next → n ≡ 2 * pos l + (m + pos (down h)) → y + n ≡ next + 2 * pos l + m
      top_wire zero y next l m n h0 e f = omega arith
      top_wire (suc h) y next l m n h0 e f = absurd (omega arith)

  after_cell : (i x j : ℕ) (L : CellLevel) → (level_after K i x L).cell j ≡ L.next + choose (eqb (K.low i) 0) 1 0 + (j - K.low i)
  unfolding level_after
  after_cell i x j L = refl

  after_next : (i x : ℕ) (L : CellLevel) → (level_after K i x L).next ≡ L.next + length (level_gates K i x L)
  unfolding level_after
  after_next i x L = refl

  after_sum : (i x : ℕ) (L : CellLevel) → K.sum ≤ i → (level_after K i x L).sum ≡ L.next + length (level_gates K i x L) - 1
  unfolding level_after
  after_sum i x L h = rw (le-ltb i K.sum h)

  -- the loop's state before level i stands for the level before it
  pub record Tied (q i l h a s m next sum : ℕ) (L : CellLevel) : Type 0 where
    pub j : ℕ
    pub lows : Lows q i l j
    pub highs : Highs K.sum i h (j + m)
    pub rows : CellRows L.cell j a s m
    pub here : L.next ≡ next
    pub sums : h ≡ 0 → L.sum ≡ sum

  -- levels up to q keep cell 0, and up to level n there is a cell
  module _ (q n : ℕ) (lowIs : (i : ℕ) → i ≤ n → K.low i ≡ i - q) (highIs : (i : ℕ) → i ≤ n → K.high i ≡ min i (K.sum - 1)) (enough : n ≤ q + K.sum) where
    tied_level : (i x l h a s m next sum : ℕ) (L : CellLevel) → Tied q i l h a s m next sum L → 1 ≤ i → i ≤ n
        → level_gates K i x L ≡ low_gates l x a next ++ (tail x a s m ++ sum_gates h (next + 2 * pos l + m) sum)
    tied_level i x l h a s m next sum L c p e =
        level_same q i x l h c.j a s m next sum L c.lows c.highs c.rows c.here c.sums p (lowIs i e) (highIs i e)

    tied_next : (i x l h a s m next sum : ℕ) (L : CellLevel) → Tied q i l h a s m next sum L → 1 ≤ i → suc i ≤ n
        → Tied q (suc i) (down l) (down h) (next + pos l) (next + pos l + 1) (pos l + m + pos (down h) - 1) (next + 2 * pos l + m + 2 - pos h) (next + 2 * pos l + m + 1 - pos h)
        (level_after K i x L)
    tied_next i x l h a s m next sum L c p e =
        let j = c.j in
        let m' = pos l + m + pos (down h) - 1 in
        let e1 : K.low i ≡ suc j - pos l = lowIs i (omega arith) ∙ low_is q i l j c.lows in
        let one = keeps_one q K.sum i l h j m c.lows c.highs (omega arith) in
        let e2 : choose (eqb (K.low i) 0) 1 0 ≡ pos l = rw e1 (not_is q i l j c.lows) in
        let here = c.here in
        let len : length (level_gates K i x L) ≡ 2 * pos l + (m + 1 + (1 - pos h)) =
        ap length (tied_level i x l h a s m next sum L c p (omega arith)) ∙ three (low_gates l x a next) (tail x a s m) (sum_gates h (next + 2 * pos l + m) sum)
        (length_low l x a next) (length-tail m x a s) (length-sum h (next + 2 * pos l + m) sum) in
        record {
          j = suc j - pos l;
          lows = lows_next q i l j c.lows;
          highs = rw (last_is q i l h j m c.lows one) (highs_next K.sum i h (j + m) c.highs);
          rows = record {
            first = after_cell i x (suc j - pos l) L ∙ omega arith;
            rest = λ k f. after_cell i x (suc (suc j - pos l) + k) L ∙ omega arith;
          };
          here = after_next i x L ∙ ends h next L.next l m (length (level_gates K i x L)) here len;
          sums = λ f. after_sum i x L (begun i h (c.j + m) f c.highs) ∙ sum_ends h next L.next l m (length (level_gates K i x L)) here len;
        }
      where
        three : (g g' g'' : List Gate) {p q r : ℕ} → length g ≡ p → length g' ≡ q → length g'' ≡ r → length (g ++ (g' ++ g'')) ≡ p + (q + r)
        three g g' g'' e f k = simp length-append (omega arith)

        ends : (h next y l m n : ℕ) → y ≡ next → n ≡ 2 * pos l + (m + 1 + (1 - pos h)) → y + n ≡ next + 2 * pos l + m + 2 - pos h
        ends zero next y l m n e f = omega arith
        ends (suc h) next y l m n e f = omega arith

        sum_ends : (h next y l m n : ℕ) → y ≡ next → n ≡ 2 * pos l + (m + 1 + (1 - pos h)) → y + n - 1 ≡ next + 2 * pos l + m + 1 - pos h
        sum_ends zero next y l m n e f = omega arith
        sum_ends (suc h) next y l m n e f = omega arith

        begun : (i h t : ℕ) → down h ≡ 0 → Highs K.sum i h t → K.sum ≤ i
        begun i zero t e k = omega (arith, k.none refl)
        begun i (suc zero) t e k = omega (arith, k.more (omega arith))
        begun i (suc (suc h)) t e k = absurd (omega arith)

    -- all levels from i on
    levels-same : (xs : List ℕ) (i l h a s m next sum : ℕ) (L : CellLevel) → (0 < length xs → Tied q i l h a s m next sum L) → 1 ≤ i → i + length xs ≤ suc n
        → levels_gates K i xs L ≡ levels xs l h a s m next sum
    unfolding levels_gates
    levels-same [] i l h a s m next sum L c p e = refl
    levels-same (x ∷ xs) i l h a s m next sum L c p e =
        ap₂ ◌++◌ (tied_level i x l h a s m next sum L (c (omega arith)) p (omega arith))
        (levels-same xs (suc i) (down l) (down h) (next + pos l) (next + pos l + 1) (pos l + m + pos (down h) - 1) (next + 2 * pos l + m + 2 - pos h) (next + 2 * pos l + m + 1 - pos h)
        (level_after K i x L) (λ f. tied_next i x l h a s m next sum L (c (omega arith)) p (omega arith)) (omega arith) (omega arith))
        ∙ simp append_assoc

    module _ (one : 1 ≤ K.sum) where
      first_tied : (x next : ℕ) → 2 ≤ n → Tied q 2 (down q) (down K.sum) (first_wire q x next) x (pos q + pos (down K.sum) - 1) (next + pos q) x (C.first_level K x next)
      unfolding C.first_level
      first_tied x next e =
          record {
            j = 1 - q;
            lows = first_lows q;
            highs = rw (last q K.sum (omega arith) one) (first_highs K.sum one);
            rows = record { first = wire q; rest = λ k f. at_one k (small q K.sum k one f) };
            here = ap (λ (y : ℕ). next + y) (ap (λ (y : ℕ). choose (eqb y 0) 1 0) (lowIs 1 (omega arith)) ∙ nots q);
            sums = λ f. refl;
          }
        where
          last : (q c : ℕ) → 2 ≤ q + c → 1 ≤ c → 1 - q + (pos q + pos (down c) - 1) ≡ pos (down c)
          last q zero e f = absurd (omega arith)
          last zero (suc zero) e f = absurd (omega arith)
          last zero (suc (suc c)) e f = omega arith
          last (suc q) (suc zero) e f = omega arith
          last (suc q) (suc (suc c)) e f = omega arith

          wire : (q : ℕ) → choose (eqb (1 - q) 0) next x ≡ first_wire q x next
          wire zero = refl
          wire (suc q) = rw (eq-eqb (1 - suc q) 0 (omega arith))

          small : (q c k : ℕ) → 1 ≤ c → k < pos q + pos (down c) - 1 → (k ≡ 0) × (1 - q ≡ 0)
          small q zero k e f = absurd (omega arith)
          small zero (suc zero) k e f = absurd (omega arith)
          small zero (suc (suc c)) k e f = absurd (omega arith)
          small (suc q) (suc zero) k e f = absurd (omega arith)
          small (suc q) (suc (suc c)) k e f = (omega arith, omega arith)

          at_one : (k : ℕ) → (k ≡ 0) × (1 - q ≡ 0) → choose (eqb (suc (1 - q) + k) 0) next x ≡ x + k
          at_one k e = rw (ne_eqb (suc (1 - q) + k) 0 (λ f. absurd (omega arith))) (omega (arith, e.0))

          nots : (q : ℕ) → choose (eqb (1 - q) 0) 1 0 ≡ pos q
          nots zero = refl
          nots (suc q) = rw (eq-eqb (1 - suc q) 0 (omega arith))

      first-same : (x : ℕ) → 1 ≤ n → C.first_gates K x ≡ first_gates q x
      unfolding C.first_gates
      first-same x e = ap (λ (y : ℕ). choose (eqb y 0) (Not x ∷ []) []) (lowIs 1 e) ∙ go q
        where
          go : (q : ℕ) → choose (eqb (1 - q) 0) (Not x ∷ []) [] ≡ first_gates q x
          go zero = refl
          go (suc q) = rw (eq-eqb (1 - suc q) 0 (omega arith))

      all_same : (ws : List ℕ) (next : ℕ) → length ws ≡ n → all_gates K ws next ≡ cells ws q K.sum next
      unfolding all_gates
      all_same [] next e = refl
      all_same (x ∷ xs) next e =
          ap₂ ◌++◌ (first-same x (omega arith))
          (levels-same xs 2 (down q) (down K.sum) (first_wire q x next) x (pos q + pos (down K.sum) - 1) (next + pos q) x (C.first_level K x next)
          (λ f. first_tied x next (omega arith)) (omega arith) (omega arith))

  -- after the last level
  end_next : (xs : List ℕ) (i : ℕ) (L : CellLevel) → (levels_end K i xs L).next ≡ L.next + length (levels_gates K i xs L)
  unfolding levels_end levels_gates
  end_next [] i L = omega arith
  end_next (x ∷ xs) i L =
      end_next xs (suc i) (level_after K i x L)
      ∙ ap (λ (y : ℕ). y + length (levels_gates K (suc i) xs (level_after K i x L))) (after_next i x L)
      ∙ omega (arith, length-append (level_gates K i x L) (levels_gates K (suc i) xs (level_after K i x L)))

  end_sum_lem : (x : ℕ) (xs : List ℕ) (i : ℕ) (L : CellLevel) → K.sum ≤ i + length xs → (levels_end K i (x ∷ xs) L).sum ≡ (levels_end K i (x ∷ xs) L).next - 1
  unfolding levels_end
  end_sum_lem x [] i L e = after_sum i x L (omega arith) ∙ ap (λ (y : ℕ). y - 1) (sym (after_next i x L))
  end_sum_lem x (y ∷ xs) i L e = end_sum_lem y xs (suc i) (level_after K i x L) (omega arith)

  first_next : (x next : ℕ) → (C.first_level K x next).next ≡ next + length (C.first_gates K x)
  unfolding C.first_level C.first_gates
  first_next x next = ap (λ (y : ℕ). next + y) (both (eqb (K.low 1) 0))
    where
      both : (t : Bool) → choose t 1 0 ≡ length (choose {X = List Gate} t (Not x ∷ []) [])
      both true = refl
      both false = refl

  last_next : (x : ℕ) (xs : List ℕ) (next : ℕ) → (last_level K (x ∷ xs) next).next ≡ next + length (all_gates K (x ∷ xs) next)
  unfolding last_level all_gates
  last_next x xs next =
      end_next xs 2 (C.first_level K x next)
      ∙ omega (arith, first_next x next, length-append (C.first_gates K x) (levels_gates K 2 xs (C.first_level K x next)))

  last_end : (x y : ℕ) (ys : List ℕ) (next : ℕ) → K.sum ≤ length ys + 2 → (last_level K (x ∷ y ∷ ys) next).sum ≡ (last_level K (x ∷ y ∷ ys) next).next - 1
  unfolding last_level
  last_end x y ys next e = end_sum_lem y ys 2 (C.first_level K x next) (omega arith)

  last_sum : (x y : ℕ) (ys : List ℕ) (next : ℕ) → K.sum ≤ length ys + 2 → (last_level K (x ∷ y ∷ ys) next).sum ≡ next + length (all_gates K (x ∷ y ∷ ys) next) - 1
  last_sum x y ys next e = last_end x y ys next e ∙ ap (λ (z : ℕ). z - 1) (last_next x (y ∷ ys) next)

-- Threshold d of n.
some_low : (d n i : ℕ) → d ≤ n → d + i - n ≡ i - (n - d)
some_low d n i h = omega arith

threshold_gates : (next d : ℕ) (ws : List ℕ) → 1 ≤ d → d ≤ length ws → all_gates (C.some_cells d (length ws)) ws next ≡ cells ws (length ws - d) d next
threshold_gates next d ws h1 h2 =
    all_same (C.some_cells d (length ws)) (length ws - d) (length ws) (λ i e. some_low d (length ws) i h2) (λ i e. refl) (omega arith) h1 ws next refl

part_eq : (p q : Part) → p.gates ≡ q.gates → p.out ≡ q.out → p ≡ q
part_eq p q e f i = record { gates = e i; out = f i }

part-some : (next d : ℕ) (ws : List ℕ) → d ≤ length ws
    → C.threshold_part next d ws ≡ record { gates = all_gates (C.some_cells d (length ws)) ws next; out = (last_level (C.some_cells d (length ws)) ws next).sum }
unfolding C.threshold_part
part-some next d ws h = rw (ne_eqb d (length ws + 1) (λ q. absurd (omega arith)))

pub threshold-part_loop : (next d : ℕ) (ws : List ℕ) → 2 ≤ length ws → 1 ≤ d → d ≤ length ws
    → C.threshold_part next d ws ≡ record { gates = cells ws (length ws - d) d next; out = next + length (cells ws (length ws - d) d next) - 1 }
threshold-part_loop next d [] h h1 h2 = absurd (omega arith)
threshold-part_loop next d (x ∷ []) h h1 h2 = absurd (omega arith)
threshold-part_loop next d (x ∷ y ∷ ys) h h1 h2 =
    let ws = x ∷ y ∷ ys in
    let e = threshold_gates next d ws h1 h2 in
    part-some next d ws h2
    ∙ part_eq _ _ e (last_sum (C.some_cells d (length ws)) x y ys next (omega arith) ∙ ap (λ (g : List Gate). next + length g - 1) e)

pub net_of_part : (d n : ℕ) → C.threshold_net d n ≡ record { inputs = n; gates = (C.threshold_part n d (up_from 0 n)).gates; outs = (C.threshold_part n d (up_from 0 n)).out ∷ [] }
unfolding C.threshold_net
net_of_part d n = refl

pub threshold_net_loop : (d n : ℕ) → 1 ≤ d → d ≤ n
    → C.threshold_net d n ≡ record { inputs = n; gates = cells (up_from 0 n) (n - d) d n; outs = (n + length (cells (up_from 0 n) (n - d) d n) - 1) ∷ [] }
threshold_net_loop d zero h1 h2 = absurd (omega arith)
threshold_net_loop d (suc zero) h1 h2 = let e : d ≡ 1 = omega arith in rw e one_of_one
threshold_net_loop d (suc (suc k)) h1 h2 =
    let n = suc (suc k) in
    let l : length (up_from 0 n) ≡ n = up_from-length 0 n in
    let e = threshold-part_loop n d (up_from 0 n) (omega arith) h1 (omega arith) in
    net_of_part d n
    ∙ net_eq _ _ refl
    (ap Part.gates e ∙ ap (λ (y : ℕ). cells (up_from 0 n) (y - d) d n) l)
    (ap (λ (o : ℕ). o ∷ []) (ap Part.out e ∙ ap (λ (y : ℕ). n + length (cells (up_from 0 n) (y - d) d n) - 1) l))

pub threshold_net_zero : (n : ℕ) → C.threshold_net (n + 1) n ≡ record { inputs = n; gates = Zero ∷ []; outs = n ∷ [] }
unfolding C.threshold_net C.threshold_part
threshold_net_zero n = rw (eq-eqb (n + 1) (length (up_from 0 n) + 1) (omega (arith, up_from-length 0 n)))

-- One-hot.
up_more : (k m : ℕ) → up_from k (suc m) ≡ up_from k m ++ (k + m) ∷ []
up_more k zero = let e : k ≡ k + 0 = omega arith in ap (λ (y : ℕ). y ∷ []) e
up_more k (suc m) =
    let e : suc k + m ≡ k + suc m = omega arith in
    ap (λ (r : List ℕ). k ∷ r) (up_more (suc k) m ∙ ap (λ (y : ℕ). up_from (suc k) m ++ y ∷ []) e)

wires_up : (n k : ℕ) (f : ℕ → ℕ) → ((j : ℕ) → f j ≡ k + j) → C.wires_to n f ≡ up_from k (suc n)
wires_up zero k f h = ap (λ (y : ℕ). y ∷ []) (h 0 ∙ omega arith)
wires_up (suc n) k f h = ap₂ (λ (r : List ℕ) (y : ℕ). r ++ y ∷ []) (wires_up n k f h) (h (suc n)) ∙ sym (up_more k (suc n))

module _ (n : ℕ) where
  hot_length : (i x : ℕ) (L : CellLevel) → i ≤ n → length (level_gates (C.all_cells n) i x L) ≡ i + 2
  hot_length i x L h =
      let b = L.cell in
      let w = L.next in
      let v = w + length (cell_gates i x b w 0) in
      let G = cell_gates i x b w 0 in
      let R = row_gates i x b v 1 i in
      ap length (open_level (C.all_cells n) i x L (G ++ R) (ap (row_gates i x b w 0) (omega arith) ∙ row_next i x b w 0 i)
      ∙ ap (λ (s : List Gate). (G ++ R) ++ s) (sum_not (C.all_cells n) i x (w + length (G ++ R)) L (omega arith)) ∙ append-nil (G ++ R))
      ∙ length-append G R ∙ ap₂ ◌+◌ (ap length (low_cell i x b w (b 0) 0 refl)) (row-length i i x b v 0) ∙ omega arith

  hot_end : (x : ℕ) (xs : List ℕ) (i : ℕ) (L : CellLevel) (j : ℕ) → i + length xs ≡ n
      → (levels_end (C.all_cells n) i (x ∷ xs) L).cell j ≡ (levels_end (C.all_cells n) i (x ∷ xs) L).next - suc n + j
  unfolding levels_end
  hot_end x [] i L j e =
      after_cell (C.all_cells n) i x j L ∙ omega (arith, after_next (C.all_cells n) i x L, hot_length i x L (omega arith))
  hot_end x (y ∷ xs) i L j e = hot_end y xs (suc i) (level_after (C.all_cells n) i x L) j (omega arith)

  hot_last : (x y : ℕ) (ys : List ℕ) (next j : ℕ) → length ys + 2 ≡ n
      → (last_level (C.all_cells n) (x ∷ y ∷ ys) next).cell j ≡ (last_level (C.all_cells n) (x ∷ y ∷ ys) next).next - suc n + j
  unfolding last_level
  hot_last x y ys next j e = hot_end y ys 2 (C.first_level (C.all_cells n) x next) j (omega arith)

hot_net : (k : ℕ) → let n = suc k in
    C.one_hot_net n ≡ record { inputs = n; gates = all_gates (C.all_cells n) (up_from 0 n) n; outs = C.wires_to n (last_level (C.all_cells n) (up_from 0 n) n).cell }
unfolding C.one_hot_net
hot_net k = refl

pub one_hot_loop : (n : ℕ) → 2 ≤ n
    → C.one_hot_net n ≡ record { inputs = n; gates = cells (up_from 0 n) n (n + 1) n; outs = up_from (length (cells (up_from 0 n) n (n + 1) n) - 1) (n + 1) }
one_hot_loop zero h = absurd (omega arith)
one_hot_loop (suc zero) h = absurd (omega arith)
one_hot_loop (suc (suc k)) h =
    let n = suc (suc k) in
    let K = C.all_cells n in
    let G = cells (up_from 0 n) n (n + 1) n in
    let e : all_gates K (up_from 0 n) n ≡ G =
    all_same K n n (λ i f. omega arith) (λ i f. omega arith) (omega arith) (omega arith) (up_from 0 n) n (up_from-length 0 n) in
    let f = last_next K 0 (up_from 1 (suc k)) n in
    let g : length (all_gates K (up_from 0 n) n) ≡ length G = ap length e in
    let z : n + 1 ≡ suc n = omega arith in
    hot_net (suc k)
    ∙ net_eq _ _ refl e
    (wires_up n (length G - 1) (last_level K (up_from 0 n) n).cell
    (λ j. hot_last n 0 1 (up_from 2 k) n j (omega (arith, up_from-length 2 k)) ∙ omega arith)
    ∙ ap (up_from (length G - 1)) (sym z))
