use mathlib.Core.Path.{sym}
use Rattle.answer.proofs.Over.{over_none, over-map}
use Rattle.netlist.specs.Net.{at, val_alg}
use Rattle.evaluate.proofs.put_outputs.Goals as goal

pub loop-o-init : goal.loop-o-init
loop-o-init c = sym (over_none _)

pub loop-o-preserved : goal.loop-o-preserved
loop-o-preserved c =
    rw c.loop-o.invariant (over-map (at val_alg c.args.values.now) c.args.wires.now c.args.outputs.now c.loop-o.o c.loop-o-test.true c.requires.0)
