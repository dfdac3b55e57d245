use mathlib.Core.Path.{sym}
use Rattle.answer.proofs.Over.{over_none, over-map}
use Rattle.netlist.specs.Glue.{thru}
use Rattle.glue.proofs.Seam.put_outputs.Goals as goal

pub loop-o-init : goal.loop-o-init
loop-o-init c = sym (over_none _)

pub loop-o-preserved : goal.loop-o-preserved
loop-o-preserved c =
    rw (c.wire.ensures, c.loop-o.invariant) (over-map (thru c.args.self.outs.now c.args.self.base) c.args.wires.now c.args.out.now c.loop-o.o c.loop-o-test.true c.requires.0)
