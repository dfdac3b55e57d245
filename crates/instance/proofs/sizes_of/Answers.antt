use mathlib.Core.Path.{sym}
use native.Mathlib.Omega.{arith}
use Rattle.instance.specs.Table.{sizes_of}
use Rattle.instance.proofs.Judged.{sizes_none}
use Rattle.instance.proofs.sizes_of.Goals as goal

pub returns-in-1 : goal.returns-in-1
unfolding sizes_of
returns-in-1 c = rw c.in-1.is

pub returns-in-2 : goal.returns-in-2
unfolding sizes_of
returns-in-2 c = rw c.in-2.is

pub returns-in-3 : goal.returns-in-3
unfolding sizes_of
returns-in-3 c = rw c.in-3.is

pub returns-in-4 : goal.returns-in-4
unfolding sizes_of
returns-in-4 c = rw c.in-4.is

pub returns-in-5 : goal.returns-in-5
unfolding sizes_of
returns-in-5 c = rw c.in-5.is

pub returns-in-6 : goal.returns-in-6
unfolding sizes_of
returns-in-6 c = rw c.in-6.is

pub returns-in_default : goal.returns-in_default
returns-in_default c = sym (sizes_none c.args.instance (λ h. omega arith))
