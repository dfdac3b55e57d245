use Prim.Native.Nat.{◌+◌, ◌≤◌}
use mathlib.Core.Path.{◌≡◌}
use lib.ListN.{drop}
use Rattle.filter.specs.Filter.{ones}
use Rattle.filter.proofs.count_ones.Given as goal

abbrev pub invariant-loop-b : goal.invariant-loop-b
invariant-loop-b l = (l.n ≤ l.b-index) × (l.n + ones (drop l.b-index l.x) ≡ ones l.x)
