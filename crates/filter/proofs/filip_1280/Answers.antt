use mathlib.Core.Path.{refl}
use mathlib.Core.List.{◌++◌}
use lib.ListN.{replicate}
use Rattle.answer.proofs.Over.{tail_is}
use Rattle.filter.specs.Instances.{degrees_of}
use Rattle.filter.proofs.Published.{total}
use Rattle.filter.proofs.Parts.{join}
use Rattle.filter.proofs.filip_1280.Goals as goal

pub returns : goal.returns
unfolding degrees_of total
returns c =
    let x = c.args.x.now in
    join (replicate 128 1 ++ replicate 64 2) (replicate 64 16) x refl (tail_is 256 x)
    (join (replicate 128 1) (replicate 64 2) x refl (tail_is 128 x) c.sum_equal-ones.ensures c.sum_equal-twos.ensures)
    c.sum_equal-sixteens.ensures
