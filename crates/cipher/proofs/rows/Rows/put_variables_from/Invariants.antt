use mathlib.Core.Path.{◌≡◌}
use lib.ListN.{take}
use Rattle.instance.specs.Keys.{key_in}
use Rattle.filter.specs.Filter.{var, tab}
use Rattle.cipher.proofs.rows.Rows.put_variables_from.Given as goal

abbrev pub invariant-loop-j : goal.invariant-loop-j
invariant-loop-j l = take l.j l.x ≡ tab (var (key_in l.self.instance l.self.key.now) l.self.indices.now l.self.whitening.now) l.j
