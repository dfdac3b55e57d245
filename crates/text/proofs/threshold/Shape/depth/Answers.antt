use native.Mathlib.Omega.{arith}
use Rattle.emit.proofs.Shapes.{shape_good}
use Rattle.text.proofs.Thresholds.{depth_none, depth-some}
use Rattle.text.proofs.threshold.Shape.depth.Goals as goal

pub returns-then-self : goal.returns-then-self
returns-then-self c = depth_none _ _ c.args.self.there c.if-self.true

pub overflow_sub-result : goal.overflow_sub-result
overflow_sub-result c = let s = shape_good c.args.self.d c.args.self.n c.args.self.there in omega arith

pub returns : goal.returns
returns c = depth-some _ _ c.args.self.there c.if-self.false
