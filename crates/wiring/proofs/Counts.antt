-- The number of a threshold's gates: its multiplications, and a NOT and an XOR for each input past d.
use Prim.Native.Nat.{ℕ, zero, suc, ◌+◌, ◌-◌, ◌*◌, ◌≤◌, min, max}
use mathlib.Core.Bool.{Bool, true, false}
use mathlib.Core.Path.{◌≡◌, refl, ap, ◌∙◌}
use mathlib.Core.List.{List, [], ◌∷◌, ◌++◌}
use native.Mathlib.Omega.{arith}
use native.Mathlib.Decide.{dec_lt}
use borrow.Author.Tests.{eqb-true, eqb-false, ne_eqb, lt-ltb, le-ltb}
use lib.Dec.{eqb, ltb}
use lib.ListN.{length, length-append}
use Rattle.answer.specs.Choose.{choose}
use Rattle.netlist.specs.declared.gate.Gate.{Gate}
use Rattle.netlist.specs.declared.gate.Gate.TheVariants.{Not, Xor, And, Mux}
use Rattle.netlist.specs.Net.{muls_of}
use Rattle.netlist.proofs.Glued.{muls-append}
use Rattle.cells.specs.Cells.{Kept, CellLevel, some_cells, kept_at, cell_gates, row_gates, sum_gates, level_gates, level_after, first_gates, first_level, levels_gates, all_gates, threshold_part}

-- k of the gates multiply nothing
abbrev Plain : ℕ → List Gate → Type 0
Plain k gs = length gs ≡ muls_of gs + k

plain_append : (j k : ℕ) (g h : List Gate) → Plain j g → Plain k h → Plain (j + k) (g ++ h)
plain_append j k g h p q = omega (arith, length-append g h, muls-append g h, p, q)

-- rows from cell 1 on multiply with each gate; cell 0 has a NOT
row_rest : (n i x : ℕ) (b : ℕ → ℕ) (w j : ℕ) → Plain 0 (row_gates i x b w (suc j) n)
unfolding row_gates cell_gates
row_rest zero i x b w j = refl
row_rest (suc n) i x b w j = go (eqb (suc j) i) (row_gates i x b (w + 1) (suc (suc j)) n) (row_rest n i x b (w + 1) (suc j))
  where
    go : (t : Bool) (gs : List Gate) → Plain 0 gs → Plain 0 (choose t (And (b j) x) (Mux x (b (suc j)) (b j)) ∷ gs)
    go true gs p = omega (arith, p)
    go false gs p = omega (arith, p)

row_plain : (i x : ℕ) (b : ℕ → ℕ) (w j n k : ℕ) → 1 ≤ n + j → k ≡ 1 - j → Plain k (row_gates i x b w j n)
unfolding row_gates cell_gates
row_plain i x b w zero zero k h e = absurd (omega arith)
row_plain i x b w zero (suc n) k h e = omega (arith, row_rest n i x b (w + 2) 0)
row_plain i x b w (suc j) n k h e = omega (arith, row_rest n i x b w j)

-- NOTs and XORs of the levels from i on, up to level n
abbrev nots_from : ℕ → ℕ → ℕ → ℕ
nots_from d n i = suc n - d - i

abbrev xors_from : ℕ → ℕ → ℕ → ℕ
xors_from d n i = suc n - max (suc d) i

nots-step : (d n i : ℕ) → i ≤ n → (1 - (d + i - n)) + nots_from d n (suc i) ≡ nots_from d n i
nots-step d n i h = omega arith

xors_step : (d n i : ℕ) → d ≤ n → i ≤ n → min 1 (i - d) + xors_from d n (suc i) ≡ xors_from d n i
xors_step d n i h k = omega arith

four : (x y z w : ℕ) {p q : ℕ} → x + z ≡ p → y + w ≡ q → x + y + (z + w) ≡ p + q
four x y z w e f = omega arith

all-nots : (d n : ℕ) → d ≤ n → (1 - (d + 1 - n)) + nots_from d n 2 ≡ n - d
all-nots d n h = omega arith

all_xors : (d n : ℕ) → 1 ≤ d → xors_from d n 2 ≡ n - d
all_xors d n h = omega arith

twice : (x y z w : ℕ) → x + y ≡ w → z ≡ w → x + (y + z) ≡ 2 * w
twice x y z w e f = omega arith

module _ (d n : ℕ) (some : 1 ≤ d) (most : d ≤ n) where
  abbrev K : Kept
  K = some_cells d n

  -- past level d the sum has an XOR
  sum_plain : (i x : ℕ) (l : CellLevel) (w k : ℕ) → k ≡ min 1 (i - d) → Plain k (sum_gates K i x l w)
  unfolding sum_gates
  sum_plain i x l w k e = elim (dec_lt i d) [
    | yes p ↦ (let t : ltb i d ≡ true = lt-ltb i d p in rw t (omega arith))
    | no p ↦ (let t : ltb i d ≡ false = le-ltb i d (omega arith) in rw t (go (eqb i d) (omega arith) (eqb-true i d) (eqb-false i d)))
  ]
    where
      go : (t : Bool) → d ≤ i → (t ≡ true → i ≡ d) → (t ≡ false → i ≡ d → ⊥) → Plain k (And (l.cell (d - 1)) x ∷ choose t [] (Xor w l.sum ∷ []))
      go true h f g = omega (arith, f refl)
      go false h f g = omega (arith, g refl)

  level_plain : (i x : ℕ) (l : CellLevel) → 2 ≤ i → i ≤ n → Plain ((1 - (d + i - n)) + min 1 (i - d)) (level_gates K i x l)
  unfolding level_gates
  level_plain i x l h k =
      let row = row_gates i x l.cell l.next (d + i - n) (kept_at K i) in
      let w = l.next + length row in
      plain_append (1 - (d + i - n)) (min 1 (i - d)) row (sum_gates K i x l w)
      (row_plain i x l.cell l.next (d + i - n) (kept_at K i) _ (omega arith) refl)
      (sum_plain i x l w _ refl)

  levels_plain : (xs : List ℕ) (i : ℕ) (l : CellLevel) → 2 ≤ i → i + length xs ≡ suc n → Plain (nots_from d n i + xors_from d n i) (levels_gates K i xs l)
  unfolding levels_gates
  levels_plain [] i l h e = omega arith
  levels_plain (x ∷ xs) i l h e =
      let after = level_after K i x l in
      let p = level_plain i x l h (omega arith) in
      let q = levels_plain xs (suc i) after (omega arith) (omega arith) in
      plain_append _ _ (level_gates K i x l) (levels_gates K (suc i) xs after) p q
      ∙ ap (λ (k : ℕ). muls_of (levels_gates K i (x ∷ xs) l) + k)
      (four (1 - (d + i - n)) (min 1 (i - d)) (nots_from d n (suc i)) (xors_from d n (suc i)) (nots-step d n i (omega arith)) (xors_step d n i most (omega arith)))

  first_plain : (x : ℕ) → Plain (1 - (d + 1 - n)) (first_gates K x)
  unfolding first_gates
  first_plain x = go (eqb (d + 1 - n) 0) (eqb-true (d + 1 - n) 0) (eqb-false (d + 1 - n) 0)
    where
      go : (t : Bool) → (t ≡ true → d + 1 - n ≡ 0) → (t ≡ false → d + 1 - n ≡ 0 → ⊥) → Plain (1 - (d + 1 - n)) (choose t (Not x ∷ []) [])
      go true f g = omega (arith, f refl)
      go false f g = omega (arith, g refl)

  all_plain : (x : ℕ) (xs : List ℕ) (next : ℕ) → n ≡ suc (length xs) → Plain (2 * (n - d)) (all_gates K (x ∷ xs) next)
  unfolding all_gates
  all_plain x xs next e =
      let l = first_level K x next in
      plain_append _ _ (first_gates K x) (levels_gates K 2 xs l) (first_plain x) (levels_plain xs 2 l (omega arith) (omega arith))
      ∙ ap (λ (k : ℕ). muls_of (all_gates K (x ∷ xs) next) + k) (twice (1 - (d + 1 - n)) (nots_from d n 2) (xors_from d n 2) (n - d) (all-nots d n most) (all_xors d n some))

pub threshold_gates : (d : ℕ) (ws : List ℕ) (next : ℕ) → 1 ≤ d → d ≤ length ws
    → length (threshold_part next d ws).gates ≡ muls_of (threshold_part next d ws).gates + 2 * (length ws - d)
unfolding threshold_part
threshold_gates d [] next h1 h2 = absurd (omega arith)
threshold_gates d (x ∷ xs) next h1 h2 =
    let n = suc (length xs) in
    let e : eqb d (n + 1) ≡ false = ne_eqb d (n + 1) (omega arith) in
    rw e (all_plain d n h1 h2 x xs next refl)
