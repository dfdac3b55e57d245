use mathlib.Core.Path.{◌≡◌}
use lib.ListN.{length, replicate}
use Rattle.meter.specs.InnerLevels.{no_gates}
use Rattle.meter.proofs.Levels.{levels_stand, both_count}
use Rattle.meter.proofs.put_levels.Goals.{After-fill}
use Rattle.meter.proofs.put_levels.Goals as goal

cleared : (c : After-fill) → c.fill.new.self ≡ replicate (length c.args.levels.now) no_gates
cleared c = c.fill.ensures.after (λ y e. e)

pub tally-requires : goal.tally-requires
tally-requires c = rw c.counts_of-c.ensures (levels_stand c.requires (cleared (goal.at.tally-requires c).After-fill))

pub returns : goal.returns
returns c =
    record {
      multiply = rw c.counts_of-c.ensures at c.tally.ensures.0;
      counts = both_count c.requires.countable (cleared (goal.at.returns c).After-fill) (rw c.counts_of-c.ensures at c.tally.ensures.1);
    }
