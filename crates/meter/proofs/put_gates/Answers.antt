use native.Mathlib.Nat.{le_antisymm}
use Rattle.meter.proofs.Depths.{gates_start, kind, gate_low, gate_more}
use Rattle.meter.proofs.put_gates.Goals.{In-loop-g}
use Rattle.meter.proofs.put_gates.Goals as goal

pub loop-g-init : goal.loop-g-init
loop-g-init c = gates_start c.requires.0 c.requires.1

pub gate_depth-deep-requires : goal.gate_depth-deep-requires
gate_depth-deep-requires c =
    let p = c.requires in
    (kind p.0 p.1 c.loop-g.g c.loop-g-test.true c.loop-g.invariant, gate_low p.0 p.1 c.loop-g.g c.loop-g-test.true c.loop-g.invariant)

pub loop-g-preserved : goal.loop-g-preserved
loop-g-preserved c =
    let p = c.requires in
    gate_more p.0 p.1 c.loop-g.g c.loop-g-test.true c.loop-g.invariant c.gate_depth-deep.ensures

pub returns : goal.returns
returns c = rw (le_antisymm c.loop-g-test.false c.loop-g.auto.g-end) c.loop-g.invariant
