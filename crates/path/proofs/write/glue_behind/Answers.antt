use mathlib.Core.Path.{sym}
use native.Mathlib.Omega.{arith}
use lib.Seq.{length-take-le}
use Rattle.path.specs.Inner.{front}
use Rattle.glue.proofs.Gluing.{glue_accepts}
use Rattle.path.proofs.Writing.{front_is}
use Rattle.path.proofs.write.glue_behind.Goals as goal

pub slice_bounds-glue-end : goal.slice_bounds-glue-end
slice_bounds-glue-end c =
    sym (length-take-le c.front_size-end.result c.args.deciphering.now (omega (arith, c.front_size-end.ensures, c.requires.0)))

pub returns : goal.returns
returns c =
    (glue_accepts (front c.args.deciphering.now) c.args.scoring.now c.args.glued.now (rw (front_is _ _ c.front_size-end.ensures) at c.glue.ensures) c.requires.1).1
