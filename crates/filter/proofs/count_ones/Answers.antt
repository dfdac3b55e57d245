use native.Mathlib.Omega.{arith}
use Rattle.filter.proofs.Sums.{ones-start, ones_step, ones_end}
use borrow.Author.Rules.{rules}
use Rattle.filter.proofs.count_ones.Goals as goal

pub loop-b-init : goal.loop-b-init
loop-b-init c = (search rules, ones-start _)

pub loop-b-preserved : goal.loop-b-preserved
loop-b-preserved c =
    rw c.from-n.ensures
    (omega arith, ones_step c.args.x.now c.loop-b.n c.loop-b.b-index (search rules) c.loop-b.invariant.1)

pub returns : goal.returns
returns c = ones_end _ _ _ (omega arith) c.loop-b.invariant.1
