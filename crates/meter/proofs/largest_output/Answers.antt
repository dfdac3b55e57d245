use Rattle.netlist.specs.Net.{at, dep_alg}
use Rattle.meter.proofs.Depths.{outs_more}
use Rattle.meter.proofs.largest_output.Goals as goal

pub loop-wire-preserved : goal.loop-wire-preserved
loop-wire-preserved c = outs_more (at dep_alg c.args.depths.now) _ _ c.loop-wire-test.true c.loop-wire.invariant c.max-top.ensures
