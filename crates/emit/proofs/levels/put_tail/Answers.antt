use mathlib.Core.Path.{◌∙◌}
use native.Mathlib.Omega.{arith}
use Rattle.emit.proofs.Leaves.{tail_start, tail-turn, tail_end}
use Rattle.emit.proofs.levels.put_tail.Goals as goal

pub loop-cell-init : goal.loop-cell-init
loop-cell-init c = (tail_start _ _ _ _ _ _ _ (omega arith), omega arith, omega arith)

pub loop-cell-preserved : goal.loop-cell-preserved
loop-cell-preserved c =
    (tail-turn _ _ _ _ _ _ _ _ (omega arith) c.put_gate.ensures ∙ c.loop-cell.invariant.0, c.put_gate.auto.out ∙ c.loop-cell.invariant.1, omega arith)

pub returns : goal.returns
returns c = tail_end _ _ _ _ _ _ _ (omega arith) c.put_gate-2.ensures ∙ c.loop-cell.invariant.0
