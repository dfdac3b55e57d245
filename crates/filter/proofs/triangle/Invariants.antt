use Prim.Native.Nat.{◌-◌}
use Rattle.filter.specs.Instances.{degrees_to}
use Rattle.filter.proofs.Parts.{Part}
use Rattle.filter.proofs.triangle.Given as goal

abbrev pub invariant-loop-degree : goal.invariant-loop-degree
invariant-loop-degree l = Part (degrees_to l.k) l.x l.sum l.rest (l.degree - 1)
