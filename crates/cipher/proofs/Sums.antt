-- Adding a record to the keystream, place by place.
use Prim.Native.Nat.{ℕ, ◌+◌, ◌%◌, ◌<◌, ◌≤◌}
use mathlib.Core.Path.{◌≡◌, refl, ap, ap₂, sym, ◌∙◌}
use mathlib.Core.List.{List, [], ◌∷◌, ◌++◌}
use native.Mathlib.Omega.{arith}
use native.Mathlib.Numerals.{add-one}
use lib.ListN.{length, get_or, set, take, drop, length-take}
use lib.Seq.{take-suc, length-take-le, take_all, get_or-append-add, get_or-drop}
use Rattle.answer.specs.Bits.{added}
use Rattle.answer.specs.Fronts.{over}
use Rattle.answer.proofs.Over.{over_next}
use Rattle.answer.proofs.Added.{added-length, added_snoc}

-- For the loop: the first i places are added.
module _ (rec old : List ℕ) (fits : length rec ≤ length old) where
  abbrev pub sums : ℕ → List ℕ
  sums i = added (take i rec) (take i old)

  pub sums_none : old ≡ over (sums 0) old
  unfolding added over
  sums_none = refl

  sums-length : (i : ℕ) → i ≤ length rec → length (sums i) ≡ i
  sums-length i h =
      added-length (take i rec) (take i old) (omega (arith, length-take i rec, length-take i old)) ∙ length-take-le i rec h

  sums-more : (i v : ℕ) → i < length rec → v ≡ (get_or rec i 0 + get_or old i 0) % 2 → set (over (sums i) old) i v ≡ over (sums (i + 1)) old
  sums-more i v h e =
      let r : take (i + 1) rec ≡ take i rec ++ get_or rec i 0 ∷ [] = ap (λ (k : ℕ). take k rec) (add-one i) ∙ take-suc rec i 0 h in
      let o : take (i + 1) old ≡ take i old ++ get_or old i 0 ∷ [] = ap (λ (k : ℕ). take k old) (add-one i) ∙ take-suc old i 0 (omega arith) in
      over_next (sums i) old i v (sums-length i (omega arith)) (omega arith)
      ∙ ap (λ (x : ℕ). over (sums i ++ x ∷ []) old) e
      ∙ ap (λ (t : List ℕ). over t old)
      (sym (ap₂ added r o ∙ added_snoc (take i rec) (take i old) (get_or rec i 0) (get_or old i 0) (omega (arith, length-take i rec, length-take i old))))

  -- what stands at place i is still the old
  sums-left : (i : ℕ) → i < length rec → get_or (over (sums i) old) i 0 ≡ get_or old i 0
  unfolding over
  sums-left i h =
      let z : length (sums i) + 0 ≡ i = omega (arith, sums-length i (omega arith)) in
      ap (λ (k : ℕ). get_or (sums i ++ drop (length (sums i)) old) k 0) (sym z)
      ∙ get_or-append-add (sums i) (drop (length (sums i)) old) 0 0
      ∙ get_or-drop (length (sums i)) old 0 0
      ∙ ap (λ (k : ℕ). get_or old k 0) z

  pub sums_next : (i : ℕ) (out : List ℕ) → i < length rec → out ≡ over (sums i) old
      → set out i ((get_or rec i 0 % 2 + get_or out i 0 % 2) % 2) ≡ over (sums (i + 1)) old
  sums_next i out h e =
      let v : (get_or rec i 0 % 2 + get_or out i 0 % 2) % 2 ≡ (get_or rec i 0 + get_or old i 0) % 2 =
      ap (λ (x : ℕ). (get_or rec i 0 % 2 + x % 2) % 2) (ap (λ (t : List ℕ). get_or t i 0) e ∙ sums-left i h) ∙ omega arith in
      ap (λ (t : List ℕ). set t i ((get_or rec i 0 % 2 + get_or out i 0 % 2) % 2)) e ∙ sums-more i _ h v

  pub sums-all : (i : ℕ) → i ≡ length rec → over (sums i) old ≡ over (added rec (take (length rec) old)) old
  sums-all i e = ap (λ (k : ℕ). over (sums k) old) e ∙ ap (λ (t : List ℕ). over (added t (take (length rec) old)) old) (take_all (length rec) rec (omega arith))
