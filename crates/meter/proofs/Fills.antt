-- A list whose first n places hold the same value: how it comes from `fill`, its length, and what is read there.
use Prim.Native.Nat.{ℕ, ◌<◌, ◌≤◌}
use mathlib.Core.Path.{◌≡◌, ◌∙◌}
use mathlib.Core.List.{List, ◌++◌}
use native.Mathlib.Omega.{arith}
use lib.ListN.{length, get_or, take, drop, replicate, length-replicate, get_or-replicate}
use lib.Seq.{length-take-le}
use Rattle.answer.specs.Fronts.{over}
use Rattle.answer.proofs.Over.{over-get_or, length_over}

module _ {X : Type 0} (v : X) (old : List X) where
  -- the first n places of a slice filled
  pub filled : (n : ℕ) {part : List X} → n ≤ length old → part ≡ replicate (length (take n old)) v → part ++ drop n old ≡ over (replicate n v) old
  unfolding over
  filled n l e = rw (e, length-take-le n old l, length-replicate n v)

  pub fill_length : (n : ℕ) → n ≤ length old → length (over (replicate n v) old) ≡ length old
  fill_length n l = length_over (replicate n v) old (omega (arith, length-replicate n v))

  pub fill_at : (n i : ℕ) → i < n → get_or (over (replicate n v) old) i v ≡ v
  fill_at n i l = over-get_or (replicate n v) old v i (omega (arith, length-replicate n v)) ∙ get_or-replicate n i v v l
