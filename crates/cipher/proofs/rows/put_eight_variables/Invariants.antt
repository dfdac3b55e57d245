use Prim.Native.Nat.{◌+◌, ◌%◌}
use mathlib.Core.Path.{◌≡◌}
use mathlib.Core.List.{◌++◌}
use lib.ListN.{get_or, take}
use Rattle.filter.specs.Filter.{tab}
use Rattle.cipher.proofs.rows.put_eight_variables.Given as goal

abbrev pub invariant-loop-t : goal.invariant-loop-t
invariant-loop-t l = take (l.i + l.t) l.x ≡ take l.i l.initial.x ++ tab (λ s. get_or l.some s 0 % 2) l.t
