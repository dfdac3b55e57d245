use Prim.Native.Nat.{◌≤◌}
use mathlib.Core.Path.{refl}
use native.Mathlib.Omega.{arith}
use lib.ListN.{length}
use Rattle.instance.specs.Table.{sizes_of}
use Rattle.filter.specs.Instances.{degrees_of}
use Rattle.filter.specs.Filter.{sum_of}
use Rattle.filter.proofs.Sums.{degrees_off}
use Rattle.filter.proofs.sum_by_parts.Goals as goal

pub flip-requires : goal.flip-requires
unfolding sizes_of
flip-requires c = (omega arith, rw c.in-1.is at c.requires)

pub flip-requires-in-2 : goal.flip-requires-in-2
unfolding sizes_of
flip-requires-in-2 c = (omega arith, rw c.in-2.is at c.requires)

pub filip_1216-requires : goal.filip_1216-requires
unfolding sizes_of
filip_1216-requires c = rw c.in-3.is at c.requires

pub filip_1280-requires : goal.filip_1280-requires
unfolding sizes_of
filip_1280-requires c = rw c.in-4.is at c.requires

pub sum_equal-requires : goal.sum_equal-requires
unfolding sizes_of
sum_equal-requires c = let h : 144 ≤ length c.args.x.now = rw c.in-5.is at c.requires in omega arith

pub returns-in-1 : goal.returns-in-1
unfolding degrees_of
returns-in-1 c = rw c.in-1.is c.flip.ensures

pub returns-in-2 : goal.returns-in-2
unfolding degrees_of
returns-in-2 c = rw c.in-2.is c.flip-in-2.ensures

pub returns-in-3 : goal.returns-in-3
returns-in-3 c = rw c.in-3.is c.filip_1216.ensures

pub returns-in-4 : goal.returns-in-4
returns-in-4 c = rw c.in-4.is c.filip_1280.ensures

pub returns-in-5 : goal.returns-in-5
unfolding degrees_of
returns-in-5 c = rw c.in-5.is c.sum_equal.ensures

pub returns-in_default : goal.returns-in_default
unfolding sum_of
returns-in_default c = rw (← degrees_off c.args.instance (λ h. omega arith)) refl
