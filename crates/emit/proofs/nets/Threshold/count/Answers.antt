use mathlib.Core.Path.{sym, ap, ◌∙◌}
use native.Mathlib.Omega.{arith}
use lib.ListN.{length}
use Rattle.emit.proofs.Shapes.{threshold_zero, threshold-cells}
use Rattle.emit.proofs.nets.Threshold.count.Goals as goal

pub returns-then-n-d : goal.returns-then-n-d
returns-then-n-d c = (sym (ap length (threshold_zero c.args.self.d c.args.self.n c.if-n-d.true (omega arith))), omega arith)

pub returns : goal.returns
returns c = (c.count.ensures.0 ∙ sym (ap length (threshold-cells c.args.self.d c.args.self.n (omega arith) c.if-n-d.false)), omega arith)
