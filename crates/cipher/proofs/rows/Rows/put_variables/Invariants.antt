use Prim.Native.Nat.{◌*◌}
use mathlib.Core.Path.{◌≡◌}
use lib.ListN.{take}
use Rattle.instance.specs.Keys.{key_in}
use Rattle.filter.specs.Filter.{var, tab}
use Rattle.cipher.proofs.rows.Rows.put_variables.Given as goal

abbrev pub invariant-loop-e : goal.invariant-loop-e
invariant-loop-e l = take (8 * l.e) l.x ≡ tab (var (key_in l.self.instance l.self.key.now) l.self.indices.now l.self.whitening.now) (8 * l.e)
