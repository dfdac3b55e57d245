use Prim.Native.Nat.{◌+◌, ◌<◌, ◌^◌}
use mathlib.Core.Path.{◌≡◌, ap, ◌∙◌}
use mathlib.Core.List.{List}
use native.Mathlib.Numerals.{add-one}
use native.Mathlib.Omega.{arith}
use lib.ListN.{length, get_or, set}
use lib.Seq.{get_or-set_same, set-set}
use Rattle.meter.specs.declared.Level.{Level}
use Rattle.meter.specs.declared.Spot.{Spot}
use Rattle.meter.specs.Levels.{spot_of}
use Rattle.meter.specs.InnerLevels.{no_gates, bump, tallied, gained}
use Rattle.meter.proofs.Levels.{sum_none, tallied_none, tallied-more, gained-fits, spot_inside, sums_fit, gained-more}
use Rattle.meter.proofs.tally.Goals.{After-spot_of-s}
use Rattle.meter.proofs.tally.Goals as goal

-- a record with the AND gates that a spot adds
abbrev halfway : Level → Spot → Level
halfway v s = record { ands = v.ands + s.ands; muxes = v.muxes }

-- one count of a record is written, then the other
module _ (ls : List Level) (s : Spot) (inside : s.at < length ls) where
  abbrev first : List Level
  first = set ls s.at (halfway (get_or ls s.at no_gates) s)

  read_again : get_or first s.at no_gates ≡ halfway (get_or ls s.at no_gates) s
  read_again = get_or-set_same ls s.at (halfway (get_or ls s.at no_gates) s) no_gates inside

  both_written : set first s.at (record { ands = (get_or first s.at no_gates).ands; muxes = (get_or first s.at no_gates).muxes + s.muxes }) ≡ set ls s.at (bump (get_or ls s.at no_gates) s)
  both_written =
      ap (λ (v : Level). set first s.at (record { ands = v.ands; muxes = v.muxes + s.muxes })) read_again
      ∙ set-set ls s.at (halfway (get_or ls s.at no_gates) s) (bump (get_or ls s.at no_gates) s)

-- the spot is inside the records, and neither count leaves its word
inside : (c : After-spot_of-s) → c.spot_of-s.result.at < length c.loop-g.levels
inside c =
    omega (arith, spot_inside c.args.levels.now c.requires.countable c.loop-g.g c.loop-g-test.true c.spot_of-s.ensures)

sums : (c : After-spot_of-s) →
    let v = get_or c.loop-g.levels c.spot_of-s.result.at no_gates in
    (v.ands + c.spot_of-s.result.ands < 2 ^ 32) × (v.muxes + c.spot_of-s.result.muxes < 2 ^ 32)
sums c =
    rw c.loop-g.invariant.1
    (sums_fit c.args.levels.now c.requires.countable c.loop-g.g c.loop-g-test.true c.spot_of-s.ensures (c.requires.none c.loop-g.g c.loop-g-test.true))

more : (c : After-spot_of-s) → c.loop-g.n + c.spot_of-s.result.multiplications ≡ gained (spot_of c.args.net.now c.args.depths.now) (c.loop-g.g + 1)
more c =
    rw (add-one, c.loop-g.invariant.0)
    (gained-more c.args.levels.now c.requires.countable c.loop-g.g c.loop-g-test.true c.spot_of-s.ensures)

counted : (c : After-spot_of-s) →
    let s = c.spot_of-s.result in
    set c.loop-g.levels s.at (bump (get_or c.loop-g.levels s.at no_gates) s) ≡ tallied (spot_of c.args.net.now c.args.depths.now) (c.loop-g.g + 1) c.args.levels.now
counted c =
    rw (add-one, c.loop-g.invariant.1)
    (tallied-more (spot_of c.args.net.now c.args.depths.now) c.args.levels.now c.loop-g.g c.spot_of-s.ensures)

pub loop-g-init : goal.loop-g-init
loop-g-init c = (sum_none _, tallied_none _ _)

pub overflow_add-levels : goal.overflow_add-levels
overflow_add-levels c = omega (arith, sums (goal.at.overflow_add-levels c).After-spot_of-s)

pub overflow_add-levels-in-loop-g : goal.overflow_add-levels-in-loop-g
overflow_add-levels-in-loop-g c =
    let p = (goal.at.overflow_add-levels-in-loop-g c).After-spot_of-s in
    rw (read_again c.loop-g.levels c.spot_of-s.result (inside p)) (omega (arith, sums p))

pub overflow_add-n : goal.overflow_add-n
overflow_add-n c =
    let p = (goal.at.overflow_add-n c).After-spot_of-s in
    omega (arith, more p, gained-fits c.args.levels.now c.requires.countable (c.loop-g.g + 1) (omega arith))

pub loop-g-preserved : goal.loop-g-preserved
loop-g-preserved c =
    let p = (goal.at.loop-g-preserved c).After-spot_of-s in
    (more p, both_written c.loop-g.levels c.spot_of-s.result (inside p) ∙ counted p)
