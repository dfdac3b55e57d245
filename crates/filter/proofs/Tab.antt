-- Laws of tables of values, as the loops fill them.
use Prim.Native.Nat.{ℕ, zero, suc, ◌+◌, ◌<◌}
use mathlib.Core.Path.{◌≡◌, refl, ap, ap₂, sym, ◌∙◌}
use mathlib.Core.List.{List, [], ◌∷◌, ◌++◌, append_assoc, append-nil}
use native.Mathlib.Omega.{arith}
use native.Mathlib.Numerals.{add-one}
use mathlib.Core.Logic.{⊎_elim}
use native.Mathlib.Nat.{eq-or-lt_of_le}
use lib.ListN.{length, get_or, set, length-append, drop_of_length-le, get_or-append}
use lib.Seq.{get_or_at}
use Rattle.answer.specs.Fronts.{over}
use Rattle.answer.proofs.Over.{over_next}
use Rattle.filter.specs.Filter.{tab}

module _ (f : ℕ → ℕ) where
  pub tab-length : (n : ℕ) → length (tab f n) ≡ n
  unfolding tab
  tab-length zero = refl
  tab-length (suc n) = length-append (tab f n) (f n ∷ []) ∙ omega (arith, tab-length n)

  pub tab-at : (n i : ℕ) → i < n → get_or (tab f n) i 0 ≡ f i
  unfolding tab
  tab-at zero i h = absurd (omega arith)
  tab-at (suc n) i h =
      ⊎_elim
      (λ (e : i ≡ n). get_or_at (tab f n) (f n) [] 0 i (omega (arith, tab-length n)) ∙ ap f (sym e))
      (λ (l : i < n). get_or-append (tab f n) (f n ∷ []) 0 i (omega (arith, tab-length n)) ∙ tab-at n i l)
      (eq-or-lt_of_le {n = i} {m = n} (omega arith))

  pub tab_none : (old : List ℕ) → old ≡ over (tab f 0) old
  unfolding tab over
  tab_none old = refl

  pub tab-more : (old : List ℕ) (n v : ℕ) → n < length old → v ≡ f n → set (over (tab f n) old) n v ≡ over (tab f (n + 1)) old
  unfolding tab
  tab-more old n v h e =
      over_next (tab f n) old n v (tab-length n) h
      ∙ ap (λ (x : ℕ). over (tab f n ++ x ∷ []) old) e
      ∙ ap (λ (k : ℕ). over (tab f k) old) (sym (add-one n))

  -- a table as long as the list
  pub tab_whole : (old : List ℕ) (n : ℕ) → n ≡ length old → over (tab f n) old ≡ tab f n
  unfolding over
  tab_whole old n e =
      ap (λ (t : List ℕ). tab f n ++ t) (drop_of_length-le old {i = length (tab f n)} (omega (arith, tab-length n))) ∙ append-nil (tab f n)

-- Tables of the same values, and a table in two parts.
pub tab-same : (f g : ℕ → ℕ) (n : ℕ) → ((t : ℕ) → t < n → f t ≡ g t) → tab f n ≡ tab g n
unfolding tab
tab-same f g zero h = refl
tab-same f g (suc n) h = ap₂ (λ (l : List ℕ) (y : ℕ). l ++ y ∷ []) (tab-same f g n (λ t k. h t (omega arith))) (h n (omega arith))

pub tab_add : (f : ℕ → ℕ) (m n : ℕ) → tab f (m + n) ≡ tab f m ++ tab (λ t. f (m + t)) n
unfolding tab
tab_add f m zero = let e : m + 0 ≡ m = omega arith in ap (tab f) e ∙ sym (append-nil (tab f m))
tab_add f m (suc n) =
    let e : m + suc n ≡ suc (m + n) = omega arith in
    ap (tab f) e
    ∙ ap (λ (l : List ℕ). l ++ f (m + n) ∷ []) (tab_add f m n)
    ∙ append_assoc (tab f m) (tab (λ t. f (m + t)) n) (f (m + n) ∷ [])
