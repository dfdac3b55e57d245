use native.Mathlib.Omega.{arith}
use Rattle.emit.proofs.Shapes.{shape_good}
use Rattle.text.proofs.Thresholds.{mults_none, mults_fewer, mults-all, product_most, product_least, product-more}
use Rattle.text.proofs.threshold.Shape.multiplications.Goals as goal

pub returns-then-self : goal.returns-then-self
returns-then-self c = mults_none _ _ c.args.self.there c.if-self.true

pub overflow_add-all : goal.overflow_add-all
overflow_add-all c = let s = shape_good c.args.self.d c.args.self.n c.args.self.there in omega arith

pub overflow_add-all-2 : goal.overflow_add-all-2
overflow_add-all-2 c = let s = shape_good c.args.self.d c.args.self.n c.args.self.there in omega arith

pub overflow_mul-all : goal.overflow_mul-all
overflow_mul-all c = omega (arith, product_most c.args.self.d c.args.self.n c.args.self.there c.if-self.false)

pub overflow_sub-all-2 : goal.overflow_sub-all-2
overflow_sub-all-2 c = omega (arith, product_least c.args.self.d c.args.self.n c.args.self.there c.if-self.false)

pub overflow_sub-result : goal.overflow_sub-result
overflow_sub-result c = omega (arith, product-more c.args.self.d c.args.self.n c.args.self.there c.if-self-2.true)

pub returns-then-self-2 : goal.returns-then-self-2
returns-then-self-2 c = mults_fewer _ _ c.args.self.there c.if-self-2.true

pub returns : goal.returns
returns c = mults-all _ _ c.args.self.there c.if-self.false c.if-self-2.false
