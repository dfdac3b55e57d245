use mathlib.Core.Path.{◌≡◌}
use Rattle.meter.specs.Levels.{spot_of}
use Rattle.meter.specs.InnerLevels.{tallied, gained}
use Rattle.meter.proofs.tally.Given as goal

abbrev pub invariant-loop-g : goal.invariant-loop-g
invariant-loop-g l =
    (l.n ≡ gained (spot_of l.net l.depths) l.g)
    × (l.levels ≡ tallied (spot_of l.net l.depths) l.g l.initial.levels)
