-- An accepted choice gives a row of n distinct indices below N. Swaps keep two facts of a list: every element is below N,
-- and no two places hold the same.
use Prim.Native.Nat.{ℕ, suc, ◌+◌, ◌<◌, ◌≤◌}
use mathlib.Core.Path.{◌≡◌, refl, sym, ap, ◌∙◌}
use mathlib.Core.Bool.{Bool, true, false}
use mathlib.Core.List.{List, [], ◌∷◌}
use native.Mathlib.Omega.{arith}
use lib.ListN.{length, get_or, set, take, length-set}
use lib.Dec.{eqb}
use lib.Seq.{get_or-set_same, get_or-set_other, get_or-take, length-take-le}
use borrow.Author.Tests.{eqb-true, eqb-false}
use Rattle.std.specs.Prelude.{Ok}
use Rattle.answer.specs.Choose.{choose}
use Rattle.instance.specs.Table.{key_bits, row_bits}
use Rattle.choice.specs.Choice.{up_to, swap, swaps, chosen, row_of, choose_answer}
use Rattle.choice.specs.Inner.{DrawsFit}
use Rattle.choice.proofs.Swaps.{up_to-length, up_to-at, swap-length, swaps-length}
use Rattle.choice.proofs.Accepted.{counted, fit}

pub record Distinct (N : ℕ) (s : List ℕ) : Type 0 where
  pub below : (k : ℕ) → k < length s → get_or s k 0 < N
  pub apart : (a b : ℕ) → a < length s → b < length s → get_or s a 0 ≡ get_or s b 0 → a ≡ b

-- the place whose element stands at k once i and j are swapped
abbrev turn : ℕ → ℕ → ℕ → ℕ
turn i j k = choose (eqb k j) i (choose (eqb k i) j k)

-- one of the two tests, taken apart
turn_cases : (P : ℕ → Type 0) (i j k : ℕ) → (k ≡ j → P i) → ((k ≡ j → ⊥) → k ≡ i → P j) → ((k ≡ j → ⊥) → (k ≡ i → ⊥) → P k) → P (turn i j k)
turn_cases P i j k f g h = first_test (eqb k j) refl
  where
    second_test : (b : Bool) → eqb k i ≡ b → (k ≡ j → ⊥) → P (choose b j k)
    second_test true e n = g n (eqb-true k i e)
    second_test false e n = h n (eqb-false k i e)

    first_test : (b : Bool) → eqb k j ≡ b → P (choose b i (choose (eqb k i) j k))
    first_test true e = f (eqb-true k j e)
    first_test false e = second_test (eqb k i) refl (eqb-false k j e)

turn_below : (n i j k : ℕ) → i < n → j < n → k < n → turn i j k < n
turn_below n i j k hi hj hk = turn_cases (λ x. x < n) i j k (λ e. hi) (λ n e. hj) (λ n m. hk)

-- turned twice, a place is itself
turn-back : (i j k : ℕ) → turn i j (turn i j k) ≡ k
turn-back i j k =
    turn_cases (λ x. turn i j x ≡ k) i j k
    (λ e. turn_cases (λ x. x ≡ k) i j i (λ m. m ∙ sym e) (λ n m. sym e) (λ n m. absurd (m refl)))
    (λ n e. turn_cases (λ x. x ≡ k) i j j (λ m. sym e) (λ m q. absurd (m refl)) (λ m q. absurd (m refl)))
    (λ n m. turn_cases (λ x. x ≡ k) i j k (λ e. absurd (n e)) (λ q e. absurd (m e)) (λ q r. refl))

turn-apart : (i j a b : ℕ) → turn i j a ≡ turn i j b → a ≡ b
turn-apart i j a b e = sym (turn-back i j a) ∙ ap (turn i j) e ∙ turn-back i j b

swap_at : (s : List ℕ) (i j k : ℕ) → i < length s → j < length s → get_or (swap i j s) k 0 ≡ get_or s (turn i j k) 0
unfolding swap
swap_at s i j k hi hj =
    let t = set s i (get_or s j 0) in
    turn_cases (λ x. get_or (set t j (get_or s i 0)) k 0 ≡ get_or s x 0) i j k
    (λ e. rw e (get_or-set_same t j (get_or s i 0) 0 (rw length-set hj)))
    (λ n e. get_or-set_other t j k (get_or s i 0) 0 n ∙ rw e (get_or-set_same s i (get_or s j 0) 0 hi))
    (λ n m. get_or-set_other t j k (get_or s i 0) 0 n ∙ get_or-set_other s i k (get_or s j 0) 0 m)

swap_distinct : (N : ℕ) (s : List ℕ) (i j : ℕ) → i < length s → j < length s → Distinct N s → Distinct N (swap i j s)
swap_distinct N s i j hi hj d =
    let len = swap-length i j s in
    record {
      below = λ k h. rw (swap_at s i j k hi hj) (d.below (turn i j k) (turn_below (length s) i j k hi hj (omega arith)));
      apart = λ a b h l e. turn-apart i j a b
          (d.apart (turn i j a) (turn i j b)
          (turn_below (length s) i j a hi hj (omega arith))
          (turn_below (length s) i j b hi hj (omega arith))
          (sym (swap_at s i j a hi hj) ∙ e ∙ swap_at s i j b hi hj));
    }

swaps_distinct : (N : ℕ) (draws : List ℕ) (i : ℕ) (s : List ℕ) → ((k : ℕ) → k < length draws → i + k + get_or draws k 0 < length s)
    → Distinct N s → Distinct N (swaps i draws s)
unfolding swaps
swaps_distinct N [] i s f d = d
swaps_distinct N (x ∷ ds) i s f d =
    let h : i + x < length s = omega (arith, f 0 (omega arith)) in
    swaps_distinct N ds (suc i) (swap i (i + x) s)
    (λ k l. omega (arith, f (suc k) (omega arith), swap-length i (i + x) s))
    (swap_distinct N s i (i + x) (omega arith) h d)

in_order : (N : ℕ) → Distinct N (up_to N)
in_order N =
    let len = up_to-length N in
    record {
      below = λ k h. (let l : k < N = omega arith in rw (up_to-at N k l) l);
      apart = λ a b h l e. sym (up_to-at N a (omega arith)) ∙ e ∙ up_to-at N b (omega arith);
    }

take_distinct : (N n : ℕ) (s : List ℕ) → n ≤ length s → Distinct N s → Distinct N (take n s)
take_distinct N n s h d =
    let len = length-take-le n s h in
    record {
      below = λ k l. (let m : k < n = omega arith in rw (get_or-take n s k 0 m) (d.below k (omega arith)));
      apart = λ a b l m e. d.apart a b (omega arith) (omega arith)
          (sym (get_or-take n s a 0 (omega arith)) ∙ e ∙ get_or-take n s b 0 (omega arith));
    }

-- The rules' rows: n distinct key indices.
pub chosen_distinct : (N : ℕ) (draws : List ℕ) → DrawsFit N draws → Distinct N (chosen N (length draws) draws)
unfolding chosen
chosen_distinct N draws f =
    let len = up_to-length N in
    take_distinct N (length draws) (swaps 0 draws (up_to N))
    (omega (arith, f.count, swaps-length draws 0 (up_to N)))
    (swaps_distinct N draws 0 (up_to N) (λ k l. omega (arith, f.low k l)) (in_order N))

-- the row of an accepted choice
module _ (inst : ℕ) (draws : List ℕ) (room : ℕ) (e : choose_answer inst draws room ≡ Ok tt) where
  pub row_distinct : Distinct (key_bits inst) (row_of inst draws)
  row_distinct = rw (← counted inst draws room e) (chosen_distinct (key_bits inst) draws (fit inst draws room e))

  pub row-length : length (row_of inst draws) ≡ row_bits inst
  unfolding chosen
  row-length =
      let f = fit inst draws room e in
      length-take-le (row_bits inst) (swaps 0 draws (up_to (key_bits inst)))
      (omega (arith, counted inst draws room e, f.count, swaps-length draws 0 (up_to (key_bits inst)), up_to-length (key_bits inst)))
