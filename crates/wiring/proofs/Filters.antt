-- The filters of instances 1 to 5 as expressions: value, multiplications, gates, depth.
use Prim.Native.Nat.{ℕ, zero, suc, ◌+◌, ◌%◌, ◌≤◌, max}
use mathlib.Core.Bool.{Bool, true, false}
use mathlib.Core.Path.{◌≡◌, refl, sym, ap, ◌∙◌}
use mathlib.Core.List.{List, [], ◌∷◌}
use native.Mathlib.Omega.{arith}
use lib.Dec.{eqb, leb}
use lib.ListN.{length, take, drop, length-drop, length-map}
use lib.Seq.{take_all}
use Rattle.answer.specs.Choose.{choose}
use Rattle.netlist.specs.Net.{at, val_alg}
use Rattle.netlist.proofs.Bits.{Bits}
use Rattle.instance.specs.Table.{row_bits}
use Rattle.filter.specs.Filter.{sum_of, ones, threshold}
use Rattle.filter.specs.Instances.{degrees_of, tail_of, filter_of}
use Rattle.filter.proofs.Sums.{sum_of-bit}
use Rattle.filter.proofs.Published.{total}
use Rattle.cells.proofs.Thr.{thr_of, thr_bits}
use Rattle.wiring.specs.Exp.{Exp, sum, least, Split, monomials}
use Rattle.wiring.specs.Inner.{fits}
use Rattle.wiring.specs.Costs.{Cost}
use Rattle.wiring.proofs.Tally.{muls, deep, size}
use Rattle.wiring.specs.Decipher.{filter_exp}
use Rattle.wiring.proofs.Exps.{All, Over, carried}
use Rattle.wiring.proofs.Products.{Splits, Bit, on, all-on, ands, tallest, sum_two, map-drop, all_drop, monomials-over, monomials_value, monomials-muls, monomials-size, monomials-deep}

-- ---- thresholds
all-bits : (xs : List ℕ) → All (λ x. x ≤ 1) xs → Bits xs
all-bits [] a i = omega arith
all-bits (x ∷ xs) a zero = a.0
all-bits (x ∷ xs) a (suc i) = all-bits xs a.1 i

least_bits : (d : ℕ) (xs : List ℕ) → All (λ x. x ≤ 1) xs → 1 ≤ d → d ≤ length xs → thr_of val_alg d xs ≡ threshold d xs
least_bits d [] a h1 h2 = absurd (omega arith)
least_bits d (x ∷ xs) a h1 h2 = thr_bits d x xs (all-bits (x ∷ xs) a) h1 h2

threshold-bit : (d : ℕ) (xs : List ℕ) → threshold d xs ≤ 1
unfolding threshold
threshold-bit d xs = go (leb d (ones xs))
  where
    go : (b : Bool) → choose b 1 0 ≤ 1
    go true = omega arith
    go false = omega arith

-- ---- what is known of an instance: it computes. Threshold 32 of 63 has 1053 multiplications, 1115 gates and depth 62, and
-- one XOR joins it
pub record Known (S : ℕ → Split) (inst : ℕ) (c : Cost) : Type 0 where
  pub first : ℕ
  pub others : List ℕ
  pub degrees : degrees_of inst ≡ first ∷ others
  pub fit : fits (first ∷ others) (row_bits inst) ≡ true
  pub long : eqb inst 5 ≡ true → row_bits inst ≡ 144
  pub times : ands (first ∷ others) + choose (eqb inst 5) 1053 0 ≡ c.mults
  pub many : total (first ∷ others) + choose (eqb inst 5) (1115 + 1) 0 ≡ c.gates
  pub tall : max (tallest S (first ∷ others)) (choose (eqb inst 5) 62 0) ≡ c.depth

module _ (S : ℕ → Split) (K : Splits S) (inst : ℕ) (c : Cost) (k : Known S inst c) (xs : List ℕ) (n : length xs ≡ row_bits inst) where
  abbrev Sum : Exp
  Sum = monomials S (degrees_of inst) xs

  fit : fits (k.first ∷ k.others) (length xs) ≡ true
  fit = ap (fits (k.first ∷ k.others)) n ∙ k.fit

  rest : eqb inst 5 ≡ true → length (drop 81 xs) ≡ 63
  rest e = omega (arith, length-drop 81 xs, k.long e)

  pub filter-over : (P : ℕ → Type 0) → All P xs → Over P (filter_exp S inst xs)
  unfolding filter_exp
  filter-over P a = go (eqb inst 5) rest (rw k.degrees (monomials-over S K k.first k.others xs fit P a))
    where
      go : (b : Bool) → (b ≡ true → length (drop 81 xs) ≡ 63) → Over P Sum → Over P (choose b (sum Sum (least 32 (drop 81 xs))) Sum)
      go true h o = let e = h refl in (o, record { two = omega arith; some = omega arith; most = omega arith; all = all_drop P 81 xs a })
      go false h o = o

  pub filter_value : (v : List ℕ) → All (Bit v) xs → carried val_alg v (filter_exp S inst xs) ≡ filter_of inst (on v xs)
  unfolding filter_exp filter_of tail_of carried
  filter_value v a = go (eqb inst 5) rest (rw k.degrees (monomials_value S K k.first k.others xs fit v a))
    where
      go : (b : Bool) → (b ≡ true → length (drop 81 xs) ≡ 63) → carried val_alg v Sum ≡ sum_of (degrees_of inst) (on v xs)
          → carried val_alg v (choose b (sum Sum (least 32 (drop 81 xs))) Sum) ≡ (sum_of (degrees_of inst) (on v xs) + choose b (threshold 32 (take 63 (drop 81 (on v xs)))) 0) % 2
      go true h e =
          let l = h refl in
          let n = length-map (drop 81 xs) (at val_alg v) in
          let q : thr_of val_alg 32 (on v (drop 81 xs)) ≡ threshold 32 (take 63 (drop 81 (on v xs))) =
          least_bits 32 (on v (drop 81 xs)) (all-on v (drop 81 xs) (all_drop (Bit v) 81 xs a)) (omega arith) (omega arith)
          ∙ ap (threshold 32) (sym (take_all 63 (on v (drop 81 xs)) (omega arith)) ∙ ap (take 63) (map-drop (at val_alg v) 81 xs)) in
          sum_two v Sum (least 32 (drop 81 xs)) _ _ e q (omega (arith, sum_of-bit (degrees_of inst) (on v xs))) (threshold-bit 32 (take 63 (drop 81 (on v xs))))
      go false h e = omega (arith, sum_of-bit (degrees_of inst) (on v xs))

  pub filter-muls : muls (filter_exp S inst xs) ≡ c.mults
  unfolding filter_exp muls
  filter-muls = go (eqb inst 5) rest (rw k.degrees (monomials-muls S K k.first k.others xs fit)) ∙ k.times
    where
      go : (b : Bool) → (b ≡ true → length (drop 81 xs) ≡ 63) → muls Sum ≡ ands (k.first ∷ k.others)
          → muls (choose b (sum Sum (least 32 (drop 81 xs))) Sum) ≡ ands (k.first ∷ k.others) + choose b 1053 0
      go true h e = let l = h refl in rw (l, e)
      go false h e = omega arith

  -- with the record bit's XOR
  pub filter-size : size (filter_exp S inst xs) + 1 ≡ c.gates
  unfolding filter_exp size muls
  filter-size = go (eqb inst 5) rest (rw k.degrees (monomials-size S K k.first k.others xs fit)) ∙ k.many
    where
      go : (b : Bool) → (b ≡ true → length (drop 81 xs) ≡ 63) → size Sum + 1 ≡ total (k.first ∷ k.others)
          → size (choose b (sum Sum (least 32 (drop 81 xs))) Sum) + 1 ≡ total (k.first ∷ k.others) + choose b (1115 + 1) 0
      go true h e = let l = h refl in rw l (omega (arith, e))
      go false h e = omega (arith, e)

  pub filter-deep : deep (filter_exp S inst xs) ≡ c.depth
  unfolding filter_exp deep
  filter-deep = go (eqb inst 5) rest (rw k.degrees (monomials-deep S K k.first k.others xs fit)) ∙ k.tall
    where
      go : (b : Bool) → (b ≡ true → length (drop 81 xs) ≡ 63) → deep Sum ≡ tallest S (k.first ∷ k.others)
          → deep (choose b (sum Sum (least 32 (drop 81 xs))) Sum) ≡ max (tallest S (k.first ∷ k.others)) (choose b 62 0)
      go true h e = let l = h refl in rw (l, e)
      go false h e = omega arith
