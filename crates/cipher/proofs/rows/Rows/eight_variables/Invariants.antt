use Prim.Native.Nat.{ℕ, ◌+◌, ◌%◌, ◌<◌}
use mathlib.Core.Path.{◌≡◌}
use lib.ListN.{length, get_or}
use Rattle.instance.specs.Keys.{key_in}
use Rattle.filter.specs.Filter.{var}
use Rattle.cipher.proofs.rows.Rows.eight_variables.Given as goal

abbrev pub invariant-loop-t : goal.invariant-loop-t
invariant-loop-t l = (length l.some ≡ 8) × ((s : ℕ) → s < l.t → get_or l.some s 0 % 2 ≡ var (key_in l.self.instance l.self.key.now) l.self.indices.now l.self.whitening.now (l.i + s))
