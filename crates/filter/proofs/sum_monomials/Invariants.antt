use Rattle.filter.proofs.Sums.{Sum}
use Rattle.filter.proofs.sum_monomials.Given as goal

abbrev pub invariant-loop-degree : goal.invariant-loop-degree
invariant-loop-degree l = Sum l.degrees l.x l.sum l.rest l.degree-index
