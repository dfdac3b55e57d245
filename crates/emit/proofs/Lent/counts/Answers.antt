use mathlib.Core.Path.{ap}
use native.Mathlib.Omega.{arith}
use Rattle.instance.specs.declared.Sizes.{Sizes}
use Rattle.instance.proofs.Judged.{key_small}
use Rattle.emit.proofs.Accepted.{counts_are}
use Rattle.emit.proofs.Lent.counts.Goals as goal

pub overflow_cast-result : goal.overflow_cast-result
overflow_cast-result c = omega (arith, ap Sizes.key c.sizes_of-sizes.ensures, key_small c.args.self.instance)

pub overflow_add-result : goal.overflow_add-result
overflow_add-result c =
    omega (arith, ap Sizes.key c.sizes_of-sizes.ensures, key_small c.args.self.instance, c.args.self.wired.few)

pub returns : goal.returns
returns c =
    counts_are _ _ _ _ _ _ c.args.self.wired (ap Sizes.key c.sizes_of-sizes.ensures) c.gates-gates.ensures.0
