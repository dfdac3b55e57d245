use mathlib.Core.Path.{sym, ap, ◌∙◌}
use native.Mathlib.Omega.{arith}
use lib.ListN.{length}
use Rattle.emit.proofs.Shapes.{hot_none, hot_cells}
use Rattle.emit.proofs.nets.OneHot.count.Goals as goal

pub returns-then-n-eq0 : goal.returns-then-n-eq0
returns-then-n-eq0 c = (sym (ap length (hot_none c.args.self.n c.if-n-eq0.true)), omega arith)

pub returns : goal.returns
returns c = (c.count.ensures.0 ∙ sym (ap length (hot_cells c.args.self.n c.if-n-eq0.false)), omega arith)
