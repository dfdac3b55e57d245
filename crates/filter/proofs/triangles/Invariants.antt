use Rattle.filter.specs.Instances.{degrees_to}
use Rattle.filter.proofs.Parts.{Parts}
use Rattle.filter.proofs.triangles.Given as goal

abbrev pub invariant-loop-triangular : goal.invariant-loop-triangular
invariant-loop-triangular l = Parts (degrees_to l.k) 8 l.x l.sum l.triangular-iterator.size l.triangular-iterator.rest.now
