use mathlib.Core.Path.{refl}
use native.Mathlib.Omega.{arith}
use Rattle.filter.specs.Instances.{degrees_of}
use Rattle.filter.proofs.Sums.{degrees_off}
use Rattle.filter.proofs.degrees.Goals as goal

pub returns-in-1 : goal.returns-in-1
unfolding degrees_of
returns-in-1 c = rw c.in-1.is refl

pub returns-in-2 : goal.returns-in-2
unfolding degrees_of
returns-in-2 c = rw c.in-2.is refl

pub returns-in-3 : goal.returns-in-3
unfolding degrees_of
returns-in-3 c = rw c.in-3.is refl

pub returns-in-4 : goal.returns-in-4
unfolding degrees_of
returns-in-4 c = rw c.in-4.is refl

pub returns-in-5 : goal.returns-in-5
unfolding degrees_of
returns-in-5 c = rw c.in-5.is refl

pub returns-in_default : goal.returns-in_default
returns-in_default c = degrees_off c.args.instance (λ h. omega arith)
