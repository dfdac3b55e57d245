-- Laws of the swaps, and of the loops that begin with the numbers in order and swap.
use Prim.Native.Nat.{ℕ, zero, suc, ◌+◌, ◌<◌, ◌≤◌}
use mathlib.Core.Path.{◌≡◌, refl, sym, ap, ◌∙◌}
use mathlib.Core.Logic.{⊎_elim}
use mathlib.Core.List.{List, [], ◌∷◌, ◌++◌}
use native.Mathlib.Omega.{arith}
use native.Mathlib.Numerals.{add-one}
use native.Mathlib.Nat.{eq-or-lt_of_le, le_antisymm}
use lib.ListN.{length, get_or, set, take, drop, length-append, length-set, get_or-append}
use lib.Seq.{drop-cons, drop-length, get_or_at, set-append_left, take-append-le}
use Rattle.answer.specs.Fronts.{over}
use Rattle.answer.proofs.Over.{over_none, over_next}
use Rattle.choice.specs.Choice.{up_to, swap, swaps, chosen}
use Rattle.choice.specs.Inner.{DrawsFit}

-- The numbers in order.
pub up_to-length : (n : ℕ) → length (up_to n) ≡ n
unfolding up_to
up_to-length zero = refl
up_to-length (suc n) = length-append (up_to n) (n ∷ []) ∙ omega (arith, up_to-length n)

pub up_to-at : (n k : ℕ) → k < n → get_or (up_to n) k 0 ≡ k
unfolding up_to
up_to-at zero k h = absurd (omega arith)
up_to-at (suc n) k h =
    ⊎_elim (λ (m : k ≡ n). get_or_at (up_to n) n [] 0 k (up_to-length n ∙ sym m) ∙ sym m)
    (λ (l : k < n). get_or-append (up_to n) _ 0 k (omega (arith, up_to-length n)) ∙ up_to-at n k l)
    (eq-or-lt_of_le {n = k} {m = n} (omega arith))

module _ (s : List ℕ) where
  pub fill_none : s ≡ over (up_to 0) s
  unfolding up_to
  fill_none = sym (over_none s)

  pub fill_more : (i : ℕ) → i < length s → set (over (up_to i) s) i i ≡ over (up_to (i + 1)) s
  unfolding up_to
  fill_more i h =
      over_next (up_to i) s i i (up_to-length i) h ∙ ap (λ (n : ℕ). over (up_to n) s) (sym (add-one i))

  pub fill_all : (i n : ℕ) → i ≤ n → n ≤ i → over (up_to i) s ≡ over (up_to n) s
  fill_all i n h l = ap (λ (k : ℕ). over (up_to k) s) (le_antisymm h l)

-- Lengths.
pub swap-length : (i j : ℕ) (s : List ℕ) → length (swap i j s) ≡ length s
unfolding swap
swap-length i j s = simp length-set

pub swaps-length : (draws : List ℕ) (i : ℕ) (s : List ℕ) → length (swaps i draws s) ≡ length s
unfolding swaps
swaps-length [] i s = refl
swaps-length (d ∷ ds) i s = swaps-length ds (suc i) (swap i (i + d) s) ∙ swap-length i (i + d) s

-- For the loop: one more swap, and all of them made.
module _ (draws s : List ℕ) (i : ℕ) where
  pub swaps-more : i < length draws
      → swaps i (drop i draws) s ≡ swaps (i + 1) (drop (i + 1) draws) (swap i (i + get_or draws i 0) s)
  unfolding swaps
  swaps-more h = rw (add-one, drop-cons draws i 0)

  pub swaps-all : i ≤ length draws → length draws ≤ i → swaps i (drop i draws) s ≡ s
  unfolding swaps
  swaps-all h l = rw (le_antisymm h l, drop-length draws)

-- Swaps within a front leave the rest.
pub swap-front : (i j : ℕ) (s t : List ℕ) → i < length s → j < length s → swap i j (s ++ t) ≡ swap i j s ++ t
unfolding swap
swap-front i j s t h l =
    let k : j < length (set s i (get_or s j 0)) = rw length-set l in
    rw (get_or-append s t 0 j l, get_or-append s t 0 i h, set-append_left s t i (get_or s j 0) h, set-append_left (set s i (get_or s j 0)) t j (get_or s i 0) k)

pub swaps-front : (draws : List ℕ) (i : ℕ) (s t : List ℕ) → ((k : ℕ) → k < length draws → i + k + get_or draws k 0 < length s)
    → swaps i draws (s ++ t) ≡ swaps i draws s ++ t
unfolding swaps
swaps-front [] i s t f = refl
swaps-front (d ∷ ds) i s t f =
    let h : i + d < length s = omega (arith, f 0 (omega arith)) in
    ap (swaps (suc i) ds) (swap-front i (i + d) s t (omega arith) h)
    ∙ swaps-front ds (suc i) (swap i (i + d) s) t
    (λ k l. omega (arith, f (suc k) (omega arith), swap-length i (i + d) s))

pub wider : {N M : ℕ} {draws : List ℕ} → DrawsFit N draws → N ≤ M → DrawsFit M draws
wider f h =
    record { count = omega (arith, f.count); low = λ i l. omega (arith, f.low i l) }

-- The row, from wires of which the first N were put in order and then swapped.
pub row_right : (N : ℕ) (draws w₀ w₁ w₂ row : List ℕ) → DrawsFit N draws → w₁ ≡ over (up_to N) w₀ → w₂ ≡ swaps 0 draws w₁
    → over (take (length draws) w₂) row ≡ over (chosen N (length draws) draws) row
unfolding chosen over
row_right N draws w₀ w₁ w₂ row f e g =
    let front = swaps-front draws 0 (up_to N) (drop (length (up_to N)) w₀) (λ k l. omega (arith, f.low k l, up_to-length N)) in
    let short : length draws ≤ length (swaps 0 draws (up_to N)) =
    omega (arith, f.count, swaps-length draws 0 (up_to N), up_to-length N) in
    ap (λ (t : List ℕ). take (length draws) t ++ drop (length (take (length draws) t)) row) (g ∙ ap (swaps 0 draws) e ∙ front)
    ∙ ap (λ (t : List ℕ). t ++ drop (length t) row) (take-append-le (length draws) (swaps 0 draws (up_to N)) _ short)
