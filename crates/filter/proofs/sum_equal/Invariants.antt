use mathlib.Core.List.{[], ◌∷◌}
use Rattle.filter.proofs.Parts.{Parts}
use Rattle.filter.proofs.sum_equal.Given as goal

abbrev pub invariant-loop-monomial : goal.invariant-loop-monomial
invariant-loop-monomial l = Parts (l.degree ∷ []) l.many l.x l.sum l.monomial-iterator.size l.monomial-iterator.rest.now
