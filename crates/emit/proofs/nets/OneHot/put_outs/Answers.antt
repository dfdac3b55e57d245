use mathlib.Core.Path.{ap, ◌∙◌}
use native.Mathlib.Omega.{arith}
use lib.Seq.{sets}
use Rattle.emit.proofs.Shapes.{hot_outs_two, hot_outs, hot_some}
use Rattle.emit.proofs.nets.OneHot.put_outs.Goals as goal

pub returns-then-n-eq1 : goal.returns-then-n-eq1
returns-then-n-eq1 c = let a = c.args in hot_outs_two a.self.n a.at a.out.now c.if-n-eq1.true

pub overflow_sub-g : goal.overflow_sub-g
overflow_sub-g c = omega (arith, hot_some c.args.self.n)

pub returns : goal.returns
returns c =
    let a = c.args in
    c.put_wires.ensures ∙ ap (sets a.out.now a.at) (hot_outs a.self.n a.g c.if-n-eq1.false c.requires.1)
