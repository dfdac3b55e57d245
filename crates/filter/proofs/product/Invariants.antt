use Prim.Native.Nat.{◌*◌, ◌%◌, ◌≤◌}
use mathlib.Core.Path.{◌≡◌}
use lib.ListN.{drop}
use Rattle.filter.specs.Filter.{prod}
use Rattle.filter.proofs.product.Given as goal

abbrev pub invariant-loop-b : goal.invariant-loop-b
invariant-loop-b l = record { bit : l.p ≤ 1; same : (l.p * prod (drop l.b-index l.x)) % 2 ≡ prod l.x % 2 }
