use native.Mathlib.Omega.{arith}
use Rattle.filter.specs.Instances.{degrees_of, filter_of}
use Rattle.filter.proofs.Sums.{sum_of-bit}
use Rattle.filter.proofs.filter.Goals as goal

pub overflow_add-result : goal.overflow_add-result
overflow_add-result c = omega (arith, c.monomials.ensures, sum_of-bit (degrees_of c.args.instance) c.args.x.now, c.tail.ensures.1)

pub returns : goal.returns
unfolding filter_of
returns c = rw (c.monomials.ensures, c.tail.ensures.0)
