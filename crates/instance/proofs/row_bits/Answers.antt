use mathlib.Core.Path.{ap}
use Rattle.instance.specs.declared.Sizes.{Sizes}
use Rattle.instance.proofs.Judged.{row_small}
use Rattle.instance.proofs.row_bits.Goals as goal

pub returns : goal.returns
returns c =
    let e = c.sizes_of-s.ensures in
    (ap (λ (s : Sizes). s.row) e, rw e (row_small c.args.instance))
