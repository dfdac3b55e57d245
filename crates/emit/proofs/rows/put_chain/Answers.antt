use Rattle.emit.proofs.RowsProduct.{chaining_start, chaining_step, chaining_end}
use Rattle.emit.proofs.rows.put_chain.Goals as goal

pub loop-j-init : goal.loop-j-init
loop-j-init c = chaining_start _ _ _ _ c.requires.0

pub loop-j-preserved : goal.loop-j-preserved
loop-j-preserved c =
    chaining_step _ _ _ _ _ _ _ _ _ c.loop-j.invariant _ c.loop-j-test.true c.put_gate.ensures

pub returns : goal.returns
returns c = chaining_end _ _ _ _ _ _ _ _ _ c.loop-j.invariant c.loop-j-test.false
