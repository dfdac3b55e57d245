-- The one-hot and the threshold netlists. docs/RULES.md, "What is emitted", after paper 001, Definitions 12
-- and 14. There is a level for each input x1 .. xn; cell(i, j) of level i carries 1 exactly if j of x1 .. xi are 1.
use Rattle.std.specs.Prelude.{ℕ, zero, suc, ◌+◌, ◌-◌, min, List, [], ◌∷◌, ◌++◌, length, ltb, eqb}
use Rattle.answer.specs.Choose.{choose}
use Rattle.netlist.specs.declared.gate.Gate.{Gate}
use Rattle.netlist.specs.declared.gate.Gate.TheVariants.{Zero, One, Not, Xor, And, Mux}
use Rattle.netlist.specs.Net.{Net}
use Rattle.netlist.specs.Part.{Part}
use Rattle.netlist.specs.Glue.{up_from}

-- of level i the cells from cell(i, low i) to cell(i, high i) are kept; the sum begins at level sum
pub record Kept : Type 0 where
  pub low : ℕ → ℕ
  pub high : ℕ → ℕ
  pub sum : ℕ

-- one-hot: all cells, and no sum up to level n
abbrev pub all_cells : ℕ → Kept
all_cells n = record { low = λ i. 0; high = λ i. i; sum = n + 1 }

-- threshold d of n: max(0, d-n+i) ≤ j ≤ min(i, d-1)
abbrev pub some_cells : ℕ → ℕ → Kept
some_cells d n = record { low = λ i. d + i - n; high = λ i. min i (d - 1); sum = d }

-- where a level's cells stand: cell j at wire `cell j`; the sum's wire; the next wire that is free
pub record CellLevel : Type 0 where
  pub cell : ℕ → ℕ
  pub sum : ℕ
  pub next : ℕ

-- Level i from 2, over input xi at wire x and the level b before it.
-- cell(i, 0): NOT xi; AND cell(i-1, 0), that NOT. Others: MUX xi, cell(i-1, j), cell(i-1, j-1), but cell(i, i): AND
-- cell(i-1, i-1), xi. w is the next wire.
unfoldable pub cell_gates : ℕ → ℕ → (ℕ → ℕ) → ℕ → ℕ → List Gate
cell_gates i x b w zero = Not x ∷ And (b 0) w ∷ []
cell_gates i x b w (suc j) = choose (eqb (suc j) i) (And (b j) x) (Mux x (b (suc j)) (b j)) ∷ []

-- n cells from cell(i, j) on
unfoldable pub row_gates : ℕ → ℕ → (ℕ → ℕ) → ℕ → ℕ → ℕ → List Gate
row_gates i x b w j zero = []
row_gates i x b w j (suc n) = cell_gates i x b w j ++ row_gates i x b (w + length (cell_gates i x b w j)) (suc j) n

module _ (K : Kept) where
  -- how many cells of level i are kept, and whether cell(i, 0) is, which takes a NOT
  abbrev pub kept_at : ℕ → ℕ
  kept_at i = suc (K.high i) - K.low i

  abbrev pub not_at : ℕ → ℕ
  not_at i = choose (eqb (K.low i) 0) 1 0

  -- after the cells, w being the next wire. At i = d, AND cell(d-1, d-1), xd; for i > d, AND cell(i-1, d-1), xi, then
  -- XOR that, the previous sum
  unfoldable pub sum_gates : ℕ → ℕ → CellLevel → ℕ → List Gate
  sum_gates i x l w =
      choose (ltb i K.sum) []
      (And (l.cell (K.sum - 1)) x ∷ choose (eqb i K.sum) [] (Xor w l.sum ∷ []))

  unfoldable pub level_gates : ℕ → ℕ → CellLevel → List Gate
  level_gates i x l =
      let row = row_gates i x l.cell l.next (K.low i) (kept_at i) in
      row ++ sum_gates i x l (l.next + length row)

  -- the cells in order, each at its last gate; the sum at the level's last gate
  unfoldable pub level_after : ℕ → ℕ → CellLevel → CellLevel
  level_after i x l =
      let next = l.next + length (level_gates i x l) in
      record {
        cell = λ j. l.next + not_at i + (j - K.low i);
        sum = choose (ltb i K.sum) l.sum (next - 1);
        next = next;
      }

  -- cell(1, 0) = NOT x1, cell(1, 1) = x1; the sum of d = 1 begins with x1 itself
  unfoldable pub first_gates : ℕ → List Gate
  first_gates x = choose (eqb (K.low 1) 0) (Not x ∷ []) []

  unfoldable pub first_level : ℕ → ℕ → CellLevel
  first_level x next = record { cell = λ j. choose (eqb j 0) next x; sum = x; next = next + not_at 1 }

  -- levels i, i + 1, .. for the inputs at these wires
  unfoldable pub levels_gates : ℕ → List ℕ → CellLevel → List Gate
  levels_gates i [] l = []
  levels_gates i (x ∷ xs) l = level_gates i x l ++ levels_gates (suc i) xs (level_after i x l)

  unfoldable pub levels_end : ℕ → List ℕ → CellLevel → CellLevel
  levels_end i [] l = l
  levels_end i (x ∷ xs) l = levels_end (suc i) xs (level_after i x l)

  -- all levels over inputs at any wires, from wire next on
  unfoldable pub all_gates : List ℕ → ℕ → List Gate
  all_gates [] next = []
  all_gates (x ∷ xs) next = first_gates x ++ levels_gates 2 xs (first_level x next)

  unfoldable pub last_level : List ℕ → ℕ → CellLevel
  last_level [] next = record { cell = λ j. 0; sum = 0; next = next }
  last_level (x ∷ xs) next = levels_end 2 xs (first_level x next)

-- f 0, f 1, .. f n
abbrev pub wires_to : ℕ → (ℕ → ℕ) → List ℕ
wires_to zero f = f 0 ∷ []
wires_to (suc n) f = wires_to n f ++ f (suc n) ∷ []

-- n = 0: ONE; otherwise outputs cell(n, 0..n)
unfoldable pub one_hot_net : ℕ → Net
one_hot_net zero = record { inputs = 0; gates = One ∷ []; outs = 0 ∷ [] }
one_hot_net (suc k) =
    let n = suc k in
    record {
      inputs = n;
      gates = all_gates (all_cells n) (up_from 0 n) n;
      outs = wires_to n (last_level (all_cells n) (up_from 0 n) n).cell;
    }

-- threshold d over inputs at any wires ws, from wire next on: d = n+1: ZERO alone; otherwise the last sum is the output
unfoldable pub threshold_part : ℕ → ℕ → List ℕ → Part
threshold_part next d ws =
    let K = some_cells d (length ws) in
    choose (eqb d (length ws + 1))
    record { gates = Zero ∷ []; out = next }
    record { gates = all_gates K ws next; out = (last_level K ws next).sum }

unfoldable pub threshold_net : ℕ → ℕ → Net
threshold_net d n =
    let p = threshold_part n d (up_from 0 n) in
    record { inputs = n; gates = p.gates; outs = p.out ∷ [] }
