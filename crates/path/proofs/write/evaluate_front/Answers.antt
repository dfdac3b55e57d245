use mathlib.Core.Path.{sym}
use native.Mathlib.Omega.{arith}
use lib.Seq.{length-take-le}
use Rattle.path.specs.Inner.{front}
use Rattle.path.proofs.Writing.{front_is, evaluated}
use Rattle.path.proofs.write.evaluate_front.Goals as goal

pub slice_bounds-evaluate-end : goal.slice_bounds-evaluate-end
slice_bounds-evaluate-end c =
    sym (length-take-le c.front_size-end.result c.args.glued.now (omega (arith, c.front_size-end.ensures, c.requires.0)))

pub returns : goal.returns
returns c =
    let a = c.args in
    let r = evaluated (front a.glued.now) a.inputs.now a.wires.now a.scores.now c.requires.1 (rw (front_is a.glued.now c.front_size-end.result c.front_size-end.ensures) at c.evaluate.ensures) in
    record { wires_after = r.0; scores_after = r.1 }
