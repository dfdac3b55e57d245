use Prim.Native.Nat.{◌+◌, ◌≤◌}
use mathlib.Core.Path.{◌≡◌}
use lib.ListN.{drop}
use Rattle.filter.specs.Filter.{ones}
use Rattle.emit.proofs.rows.count_ones.Given as goal

abbrev pub invariant-loop-w : goal.invariant-loop-w
invariant-loop-w l = (l.n ≤ l.w-index) × (l.n + ones (drop l.w-index l.wh) ≡ ones l.wh)
