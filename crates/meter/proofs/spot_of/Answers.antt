use Prim.Native.Nat.{◌+◌}
use mathlib.Core.Path.{◌∙◌}
use lib.ListN.{get_or}
use Rattle.meter.specs.Levels.{spot_of}
use Rattle.meter.proofs.Spots.{one_is}
use Rattle.meter.proofs.spot_of.Goals as goal

pub returns : goal.returns
unfolding spot_of
returns c =
    let a = c.from-a.ensures ∙ one_is _ in
    let m = c.from-m.ensures ∙ one_is _ in
    λ i. record {
      at = get_or c.args.depths.now (c.requires.inputs i + c.args.g) 0;
      ands = a i;
      muxes = m i;
      multiplications = a i + m i;
    }
