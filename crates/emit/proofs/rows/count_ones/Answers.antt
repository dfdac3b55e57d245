use Rattle.filter.proofs.Sums.{ones-start, ones_step, ones_end}
use borrow.Author.Rules.{rules}
use Rattle.emit.proofs.rows.count_ones.Goals as goal

pub loop-w-init : goal.loop-w-init
loop-w-init c = (search rules, ones-start _)

pub loop-w-preserved : goal.loop-w-preserved
loop-w-preserved c =
    (search rules, rw c.from-n.ensures (ones_step c.args.wh.now c.loop-w.n c.loop-w.w-index (search rules) c.loop-w.invariant.1))

pub returns : goal.returns
returns c = ones_end _ _ _ c.loop-w-test.false c.loop-w.invariant.1
