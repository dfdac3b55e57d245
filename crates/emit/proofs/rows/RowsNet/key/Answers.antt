use mathlib.Core.Path.{ap}
use native.Mathlib.Omega.{arith}
use Rattle.instance.specs.declared.Sizes.{Sizes}
use Rattle.instance.proofs.Judged.{key_small}
use Rattle.emit.proofs.rows.RowsNet.key.Goals as goal

pub overflow_cast-result : goal.overflow_cast-result
overflow_cast-result c = omega (arith, ap Sizes.key c.sizes_of.ensures, key_small c.args.self.instance)

pub returns : goal.returns
returns c = let k = ap Sizes.key c.sizes_of.ensures in (k, omega (arith, k, key_small c.args.self.instance))
