-- Levels one after the other: walked, which counts their gates, and stored.
use Prim.Native.Nat.{ℕ, suc, ◌+◌, ◌-◌, ◌*◌, ◌≤◌, ◌<◌}
use mathlib.Core.Path.{◌≡◌, refl, sym, ap, ◌∙◌}
use mathlib.Core.List.{List, [], ◌∷◌, ◌++◌, append_assoc}
use native.Mathlib.Omega.{arith}
use native.Mathlib.Numerals.{add-one}
use lib.ListN.{length, get_or, drop, length-append, drop_of_length-le}
use lib.Seq.{drop-cons}
use Rattle.cells.specs.InnerLoop.{pos, down, tail, low_gates, sum_gates, cells, first_gates, first_wire}
use Rattle.emit.specs.declared.levels.LevelRow.{LevelRow}
use Rattle.netlist.specs.Put.{put_gates}
use Rattle.netlist.proofs.Puts.{put_append, put_length, more}
use Rattle.emit.specs.InnerLevels.{level_gates, level_size, after_level, levels_of, LevelFits, StepFits, first_level}
use Rattle.emit.proofs.Leaves.{pos_le, low_length, tail-length, sum-length, first-length}

level_length : (r : LevelRow) (x : ℕ) → length (level_gates r x) ≡ level_size r
unfolding level_gates
level_length r x = simp (length-append, low_length, tail-length, sum-length) (omega (arith, pos_le r.highs))

levels_split : (x : ℕ) (xs : List ℕ) (r : LevelRow) → levels_of (x ∷ xs) r ≡ level_gates r x ++ levels_of xs (after_level r)
unfolding levels_of level_gates
levels_split x xs r = simp append_assoc

levels-length : (x : ℕ) (xs : List ℕ) (r : LevelRow) → length (levels_of (x ∷ xs) r) ≡ level_size r + length (levels_of xs (after_level r))
levels-length x xs r = ap length (levels_split x xs r) ∙ length-append (level_gates r x) (levels_of xs (after_level r)) ∙ ap (λ (n : ℕ). n + length (levels_of xs (after_level r))) (level_length r x)

-- a level stored leaves the others to store
level_stored : (x : ℕ) (xs : List ℕ) (r : LevelRow) (out : List ℕ)
    → put_gates (put_gates out r.at (level_gates r x)) (after_level r).at (levels_of xs (after_level r)) ≡ put_gates out r.at (levels_of (x ∷ xs) r)
level_stored x xs r out =
    put_append (level_gates r x) (levels_of xs (after_level r)) out r.at (after_level r).at (omega (arith, level_length r x))
    ∙ ap (put_gates out r.at) (sym (levels_split x xs r))

-- the parts of a level, stored one after the other
pub level_put : (r : LevelRow) (x : ℕ) (out o₁ o₂ o₃ : List ℕ) (p : ℕ) → p ≡ pos r.lows → o₁ ≡ put_gates out r.at (low_gates r.lows x r.first r.next)
    → o₂ ≡ put_gates o₁ (r.at + 8 * p) (tail x r.first r.second r.more)
    → o₃ ≡ put_gates o₂ (r.at + 8 * p + 4 * (r.more + 1)) (sum_gates r.highs (r.next + 2 * p + r.more) r.sum)
    → o₃ ≡ put_gates out r.at (level_gates r x)
unfolding level_gates
level_put r x out o₁ o₂ o₃ p e e₁ e₂ e₃ =
    let low = low_gates r.lows x r.first r.next in
    let mid = tail x r.first r.second r.more in
    let sum = sum_gates r.highs (r.next + 2 * pos r.lows + r.more) r.sum in
    let n₁ = low_length r.lows x r.first r.next in
    let n₂ = tail-length r.more x r.first r.second in
    let s : o₃ ≡ put_gates o₂ (r.at + 8 * p + 4 * (r.more + 1)) sum = e₃ ∙ ap (λ (q : ℕ). put_gates o₂ (r.at + 8 * p + 4 * (r.more + 1)) (sum_gates r.highs (r.next + 2 * q + r.more) r.sum)) e in
    more out o₁ o₃ r.at (r.at + 8 * p) low (mid ++ sum) e₁
    (more o₁ o₂ o₃ (r.at + 8 * p) (r.at + 8 * p + 4 * (r.more + 1)) mid sum e₂ s (omega arith))
    (omega arith)

-- what the code of a step makes
minus_one : (a b : ℕ) → b ≤ 1 → a + 2 - b - 1 ≡ a + 1 - b
minus_one a b h = omega arith

pub after_is : (r : LevelRow) (p q df dl pd dm : ℕ) → p ≡ pos r.lows → q ≡ pos r.highs → df ≡ down r.highs → dl ≡ down r.lows → pd ≡ pos df → dm ≡ p + r.more + pd - 1
    → ◌≡◌ {A = LevelRow} (record {
      at = r.at + 4 * (2 * p + r.more + 1 + (1 - q));
      lows = dl;
      highs = df;
      first = r.next + p;
      second = r.next + p + 1;
      more = dm;
      next = r.next + (2 * p + r.more + 1 + (1 - q));
      sum = r.next + (2 * p + r.more + 1 + (1 - q)) - 1;
    }) (after_level r)
after_is r p q df dl pd dm e₁ e₂ e₃ e₄ e₅ e₆ =
    let u : pd ≡ pos (down r.highs) = e₅ ∙ ap pos e₃ in
    let k = pos_le r.highs in
    let u₁ : dm ≡ pos r.lows + r.more + pos (down r.highs) - 1 = omega arith in
    let u₂ : 2 * p + r.more + 1 + (1 - q) ≡ level_size r = omega arith in
    let u₃ : r.next + level_size r ≡ r.next + 2 * pos r.lows + r.more + 2 - pos r.highs = omega arith in
    let u₄ : r.next + 2 * pos r.lows + r.more + 2 - pos r.highs - 1 ≡ r.next + 2 * pos r.lows + r.more + 1 - pos r.highs = minus_one (r.next + 2 * pos r.lows + r.more) (pos r.highs) k in
    let u₅ : r.next + p ≡ r.next + pos r.lows = omega arith in
    rw (u₂, u₃, u₄, u₁, u₅, e₃, e₄)

pub first_is : (at next l h x p df dl pd dm a : ℕ) → p ≡ pos l → df ≡ down h → dl ≡ down l → pd ≡ pos df → dm ≡ p + pd - 1 → a ≡ first_wire l x next
    → ◌≡◌ {A = LevelRow} (record { at = at + 4 * p; lows = dl; highs = df; first = a; second = x; more = dm; next = next + p; sum = x }) (first_level at next l h x)
first_is at next l h x p df dl pd dm a e₁ e₂ e₃ e₄ e₅ e₆ =
    let u : pd ≡ pos (down h) = e₄ ∙ ap pos e₂ in
    let u₁ : dm ≡ pos l + pos (down h) - 1 = omega arith in
    rw (u₁, e₁, e₂, e₃, e₆)

-- Where a walk over the levels stands, at input wire j: behind `base` wires there are `total` gates in all. Each row has
-- at most j cells after the first.
pub record Walk (ws : List ℕ) (base total : ℕ) (r : LevelRow) (j : ℕ) : Type 0 where
  pub count : r.next + length (levels_of (drop j ws) r) ≡ base + total
  pub some : 1 ≤ j
  pub within : j ≤ length ws
  pub many : length ws ≤ 64
  pub row : r.more ≤ j
  pub cell : r.second ≤ r.next + 1
  pub least : base ≤ r.next
  pub most : r.next ≤ base + 1 + 70 * j

drop_here : (ws : List ℕ) (j : ℕ) (r : LevelRow) → j < length ws → levels_of (drop j ws) r ≡ levels_of (get_or ws j 0 ∷ drop (suc j) ws) r
drop_here ws j r h = ap (λ (z : List ℕ). levels_of z r) (drop-cons ws j 0 h)

length-here : (ws : List ℕ) (j : ℕ) (r : LevelRow) → j < length ws → length (levels_of (drop j ws) r) ≡ level_size r + length (levels_of (drop (suc j) ws) (after_level r))
length-here ws j r h = ap length (drop_here ws j r h) ∙ levels-length (get_or ws j 0) (drop (suc j) ws) r

walk_on : (ws : List ℕ) (base total : ℕ) (r : LevelRow) (j : ℕ) → Walk ws base total r j → j < length ws → Walk ws base total (after_level r) (j + 1)
walk_on ws base total r j g h =
    let p = pos_le r.lows in let p2 = pos_le r.highs in let p3 = pos_le (down r.highs) in
    let v = length-here ws j r h in
    rw (add-one j) (record {
      count = omega (arith, g.count);
      some = omega arith;
      within = omega arith;
      many = g.many;
      row = omega (arith, g.row);
      cell = omega (arith, g.cell);
      least = omega (arith, g.least);
      most = omega (arith, g.most, g.row, g.many);
    })

walk_end : (ws : List ℕ) (base total : ℕ) (r : LevelRow) (j : ℕ) → Walk ws base total r j → length ws ≤ j → (r.next ≡ base + total) × (r.next ≤ base + 4481)
unfolding levels_of
walk_end ws base total r j g h =
    (omega (arith, g.count, ap (λ (z : List ℕ). length (levels_of z r)) (drop_of_length-le ws h)), omega (arith, g.most, g.within, g.many))

-- the cells: level 1, then the others
cells_split : (ws : List ℕ) (l h at next : ℕ) → 1 ≤ length ws → cells ws l h next ≡ first_gates l (get_or ws 0 0) ++ levels_of (drop 1 ws) (first_level at next l h (get_or ws 0 0))
unfolding levels_of
cells_split [] l h at next k = absurd (omega arith)
cells_split (x ∷ xs) l h at next k = refl

pub cells-length : (ws : List ℕ) (l h at next : ℕ) → 1 ≤ length ws
    → length (cells ws l h next) ≡ pos l + length (levels_of (drop 1 ws) (first_level at next l h (get_or ws 0 0)))
cells-length ws l h at next k =
    let x = get_or ws 0 0 in
    let rest = levels_of (drop 1 ws) (first_level at next l h x) in
    ap length (cells_split ws l h at next k) ∙ length-append (first_gates l x) rest ∙ ap (λ (n : ℕ). n + length rest) (first-length l x)

walk_start : (ws : List ℕ) (l h at next : ℕ) → 1 ≤ length ws → length ws ≤ 64 → get_or ws 0 0 < next
    → Walk ws next (length (cells ws l h next)) (first_level at next l h (get_or ws 0 0)) 1
walk_start ws l h at next k many hx =
    let p1 = pos_le l in let p2 = pos_le (down h) in
    record {
      count = omega (arith, cells-length ws l h at next k);
      some = omega arith;
      within = k;
      many = many;
      row = omega arith;
      cell = omega arith;
      least = omega arith;
      most = omega arith;
    }

-- The walk that counts.
pub record Counting (ws : List ℕ) (base total : ℕ) (r : LevelRow) (j : ℕ) : Type 0 where
  pub walk : Walk ws base total r j
  pub index : r.at ≤ 4 * r.next
  pub small : base ≤ 64

pub counting_start : (ws : List ℕ) (l h n : ℕ) (r : LevelRow) → 1 ≤ n → length ws ≡ n → get_or ws 0 0 ≡ 0 → n ≤ 64 → r ≡ first_level 0 n l h 0
    → Counting ws n (length (cells ws l h n)) r 1
counting_start ws l h n r some len x0 many er =
    let w = walk_start ws l h 0 n (omega arith) (omega arith) (omega arith) in
    rw er (record { walk = rw x0 at w; index = omega (arith, pos_le l); small = many })

pub counting_fits : (ws : List ℕ) (base total : ℕ) (r : LevelRow) (j : ℕ) → Counting ws base total r j → StepFits r
counting_fits ws base total r j g =
    let w = g.walk in
    record { at_fits = omega (arith, g.index, g.small, w.row, w.most, w.within, w.many); next_fits = omega (arith, g.small, w.row, w.most, w.within, w.many) }

pub counting_next : (ws : List ℕ) (base total : ℕ) (r : LevelRow) (j : ℕ) (q : LevelRow) → Counting ws base total r j → j < length ws → q ≡ after_level r
    → Counting ws base total q (j + 1)
counting_next ws base total r j q g h e =
    rw e (record { walk = walk_on ws base total r j g.walk h; index = omega (arith, g.index, pos_le r.highs); small = g.small })

pub counting_end : (ws : List ℕ) (base total : ℕ) (r : LevelRow) (j : ℕ) → Counting ws base total r j → length ws ≤ j
    → (r.next - base ≡ total) × (r.next - base ≤ 10000)
counting_end ws base total r j g h = let e = walk_end ws base total r j g.walk h in (omega (arith, e), omega (arith, e))

-- The walk that stores: what is left to store makes of the slice what all the levels make of the one at level 1.
pub record Climbing (ws : List ℕ) (base total : ℕ) (out₀ : List ℕ) (r₀ : LevelRow) (out : List ℕ) (r : LevelRow) (j : ℕ) : Type 0 where
  pub walk : Walk ws base total r j
  pub left : put_gates out r.at (levels_of (drop j ws) r) ≡ put_gates out₀ r₀.at (levels_of (drop 1 ws) r₀)
  pub len : length out ≡ length out₀
  pub room : r.at + 4 * length (levels_of (drop j ws) r) ≤ length out
  pub small : base ≤ 1000000

pub climbing_start : (ws out o : List ℕ) (l h at next : ℕ) (r : LevelRow) → 1 ≤ length ws → length ws ≤ 64 → next ≤ 1000000 → get_or ws 0 0 < next
    → r ≡ first_level at next l h (get_or ws 0 0) → o ≡ put_gates out at (first_gates l (get_or ws 0 0)) → at + 4 * length (cells ws l h next) ≤ length out
    → Climbing ws next (length (cells ws l h next)) o r o r 1
climbing_start ws out o l h at next r k many small hx er eo room =
    let n = cells-length ws l h at next k in
    let lo : length o ≡ length out = ap length eo ∙ put_length (first_gates l (get_or ws 0 0)) out at in
    rw er (record { walk = walk_start ws l h at next k many hx; left = refl; len = refl; room = omega arith; small = small })

module _ (ws : List ℕ) (base total : ℕ) (out₀ : List ℕ) (r₀ : LevelRow) (out : List ℕ) (r : LevelRow) (j : ℕ) (g : Climbing ws base total out₀ r₀ out r j) where
  pub climbing_fits : j < length ws → LevelFits r (length out)
  climbing_fits h =
      let w = g.walk in
      let v = length-here ws j r h in
      record { room = omega (arith, g.room); cells_fit = omega (arith, w.cell, w.most, w.many, w.row, g.small); next_fits = omega (arith, w.most, w.many, w.row, g.small) }

  climbing_on : j < length ws → Climbing ws base total out₀ r₀ (put_gates out r.at (level_gates r (get_or ws j 0))) (after_level r) (suc j)
  climbing_on h =
      let x = get_or ws j 0 in
      let v = length-here ws j r h in
      let o = put_length (level_gates r x) out r.at in
      record {
        walk = rw (add-one j) at (walk_on ws base total r j g.walk h);
        left = level_stored x (drop (suc j) ws) r out ∙ ap (put_gates out r.at) (sym (drop_here ws j r h)) ∙ g.left;
        len = o ∙ g.len;
        room = rw o (omega (arith, g.room));
        small = g.small;
      }

  pub climbing_next : (out' : List ℕ) (q : LevelRow) → j < length ws → q ≡ after_level r → out' ≡ put_gates out r.at (level_gates r (get_or ws j 0))
      → Climbing ws base total out₀ r₀ out' q (j + 1)
  climbing_next out' q h e f = rw (e, f, add-one j) (climbing_on h)

  -- all stored
  climbing_last : length ws ≤ j → out ≡ put_gates out₀ r₀.at (levels_of (drop 1 ws) r₀)
  unfolding levels_of put_gates
  climbing_last h = sym (ap (λ (z : List ℕ). put_gates out r.at (levels_of z r)) (drop_of_length-le ws h)) ∙ g.left

  pub climbing_end : length ws ≤ j → (r.next ≡ base + total) × (r.next ≤ 1010000)
  climbing_end h = let e = walk_end ws base total r j g.walk h in (e.0, omega (arith, e, g.small))

  -- from the slice that level 1 was stored in
  pub climbing_whole : (out₁ : List ℕ) (l h at : ℕ) → length ws ≤ j → r₀ ≡ first_level at base l h (get_or ws 0 0) → out₀ ≡ put_gates out₁ at (first_gates l (get_or ws 0 0))
      → out ≡ put_gates out₁ at (cells ws l h base)
  climbing_whole out₁ l h at e er eo =
      let x = get_or ws 0 0 in
      let rest = levels_of (drop 1 ws) (first_level at base l h x) in
      let k : 1 ≤ length ws = omega (arith, g.walk.some, g.walk.within) in
      more out₁ out₀ out at (at + 4 * pos l) (first_gates l x) rest eo
      (climbing_last e ∙ ap (λ (z : LevelRow). put_gates out₀ z.at (levels_of (drop 1 ws) z)) er)
      (omega (arith, first-length l x))
      ∙ ap (put_gates out₁ at) (sym (cells_split ws l h at base k))
