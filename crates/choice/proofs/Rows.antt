-- Rows that were chosen from accepted draws, end to end: the judges of rows accept them, and they are a wiring that may be
-- lent.
use Prim.Native.Nat.{ℕ, zero, suc, ◌+◌, ◌*◌, ◌/◌, ◌%◌, ◌<◌, ◌≤◌}
use mathlib.Core.Path.{◌≡◌, sym, ap, ◌∙◌}
use mathlib.Core.Logic.{⊎_elim}
use mathlib.Core.List.{List, ◌++◌}
use native.Mathlib.Nat.{suc-mul, eq-or-lt_of_le}
use native.Mathlib.Omega.{arith}
use borrow.Author.Tests.{ne_eqb}
use lib.Arith.{digits_lt}
use lib.ListN.{length, get_or, length-append, get_or-append}
use lib.Seq.{get_or-append-add}
use Rattle.std.specs.Prelude.{Ok}
use Rattle.instance.specs.Table.{key_bits, row_bits, white_bits}
use Rattle.instance.specs.Judging.{rows_answer}
use Rattle.instance.specs.Wired.{Wired, Bits}
use Rattle.instance.proofs.Accepted.{place_of, done_rows}
use Rattle.choice.specs.Choice.{row_of, rows_of, choose_answer}
use Rattle.choice.proofs.Distinct.{Distinct, row_distinct, row-length}

-- m rows of n indices below N, distinct in each row. Place j of row i is i * n + j
pub record Rowed (N n m : ℕ) (s : List ℕ) : Type 0 where
  pub indices : length s ≡ m * n
  pub below : (k : ℕ) → k < length s → get_or s k 0 < N
  pub distinct : (i j k : ℕ) → i < m → j < n → k < n → get_or s (i * n + j) 0 ≡ get_or s (i * n + k) 0 → j ≡ k

module _ (inst : ℕ) (draws : ℕ → List ℕ) (room : ℕ → ℕ) where
  abbrev n : ℕ
  n = row_bits inst

  abbrev Accepted : ℕ → Type 0
  Accepted m = (t : ℕ) → t < m → choose_answer inst (draws t) (room t) ≡ Ok tt

  rows_length : (m : ℕ) → Accepted m → length (rows_of inst draws m) ≡ m * n
  unfolding rows_of
  rows_length zero a = omega arith
  rows_length (suc m) a =
      length-append (rows_of inst draws m) (row_of inst (draws m))
      ∙ omega (arith, rows_length m (λ t h. a t (omega arith)), row-length inst (draws m) (room m) (a m (omega arith)), suc-mul m n)

  rows_at : (m : ℕ) → Accepted m → (i j : ℕ) → i < m → j < n → get_or (rows_of inst draws m) (i * n + j) 0 ≡ get_or (row_of inst (draws i)) j 0
  unfolding rows_of
  rows_at zero a i j h k = absurd (omega arith)
  rows_at (suc m) a i j h k =
      let b : Accepted m = λ t l. a t (omega arith) in
      let len = rows_length m b in
      ⊎_elim
      (λ (e : i ≡ m).
      rw e
      (ap (λ (x : ℕ). get_or (rows_of inst draws m ++ row_of inst (draws m)) (x + j) 0) (sym len)
      ∙ get_or-append-add (rows_of inst draws m) (row_of inst (draws m)) j 0))
      (λ (l : i < m).
      get_or-append (rows_of inst draws m) (row_of inst (draws m)) 0 (i * n + j) (omega (arith, digits_lt l k))
      ∙ rows_at m b i j l k)
      (eq-or-lt_of_le {n = i} {m = m} (omega arith))

  module _ (m : ℕ) (a : Accepted m) where
    -- The rules' rows, as the cipher calls take them.
    pub rows_rowed : Rowed (key_bits inst) n m (rows_of inst draws m)
    rows_rowed =
        let len = rows_length m a in
        let row : (t : ℕ) → t < m → Distinct (key_bits inst) (row_of inst (draws t)) = λ t h. row_distinct inst (draws t) (room t) (a t h) in
        let size : (t : ℕ) → t < m → length (row_of inst (draws t)) ≡ n = λ t h. row-length inst (draws t) (room t) (a t h) in
        record {
          indices = len;
          below = λ k h.
              let p = place_of m n k (omega arith) in
              rw (← p.0) (rw (rows_at m a (k / n) (k % n) p.1 p.2) ((row (k / n) p.1).below (k % n) (omega (arith, p.2, size (k / n) p.1))));
          distinct = λ i j k h hj hk e. (row i h).apart j k (omega (arith, size i h)) (omega (arith, size i h))
              (sym (rows_at m a i j h hj) ∙ e ∙ rows_at m a i k h hk);
        }

    -- The row judges of a cipher call, as whose list l they are handed on, accept them.
    pub rows_accepted : (l : ℕ) → rows_answer l (key_bits inst) n (rows_of inst draws m) ≡ Ok tt
    rows_accepted l =
        let r = rows_rowed in
        done_rows l (key_bits inst) n m (rows_of inst draws m) r.indices r.below r.distinct

    -- With a whitening bit for each index, all 0 for FLIP, they are a wiring that may be lent.
    pub rows_wired : 1 ≤ inst → inst ≤ 5 → 1 ≤ m → m ≤ 64 → (wh : List ℕ) → Bits (m * n) wh → (inst ≤ 2 → (k : ℕ) → k < length wh → get_or wh k 0 ≡ 0)
        → Wired inst m (rows_of inst draws m) wh
    unfolding white_bits
    rows_wired least most some few wh bits plain =
        let r = rows_rowed in
        record {
          least = least;
          most = omega arith;
          some = some;
          few = few;
          indices = r.indices;
          whitening = rw (ne_eqb inst 6 (λ e. omega arith)) bits.size;
          white_bit = bits.bit;
          below = r.below;
          distinct = r.distinct;
          plain = plain;
        }

-- one row
pub row_accepted : (l inst : ℕ) (draws : List ℕ) (room : ℕ) → choose_answer inst draws room ≡ Ok tt
    → rows_answer l (key_bits inst) (row_bits inst) (row_of inst draws) ≡ Ok tt
unfolding rows_of
row_accepted l inst draws room e = rows_accepted inst (λ t. draws) (λ t. room) 1 (λ t h. e) l
