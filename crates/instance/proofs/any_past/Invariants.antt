use Prim.Native.Nat.{ℕ, ◌<◌}
use mathlib.Core.Bool.{false}
use mathlib.Core.Path.{◌≡◌}
use lib.ListN.{get_or}
use Rattle.instance.proofs.any_past.Given as goal

abbrev pub invariant-loop-index : goal.invariant-loop-index
invariant-loop-index l = l.any ≡ false → (k : ℕ) → k < l.index-index → get_or l.s k 0 < l.limit
