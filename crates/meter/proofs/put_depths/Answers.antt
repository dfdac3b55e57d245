use Prim.Native.Nat.{◌+◌}
use mathlib.Core.Path.{◌≡◌}
use mathlib.Core.List.{◌++◌}
use lib.ListN.{drop, replicate}
use Rattle.answer.specs.Fronts.{over}
use Rattle.meter.proofs.Fills.{filled}
use Rattle.meter.proofs.Depths.{zeros_stand, both_fill}
use Rattle.meter.proofs.put_depths.Goals.{After-fill}
use Rattle.meter.proofs.put_depths.Goals as goal

zeros : (c : After-fill) →
    let n = c.args.inputs + c.args.gates in
    c.fill.new.self ++ drop n c.args.depths.now ≡ over (replicate n 0) c.args.depths.now
zeros c = filled 0 c.args.depths.now (c.args.inputs + c.args.gates) c.requires.room (c.fill.ensures.after (λ y e. e))

pub put_gates-requires : goal.put_gates-requires
put_gates-requires c = zeros_stand c.requires (zeros (goal.at.put_gates-requires c).After-fill)

pub returns : goal.returns
returns c = both_fill c.requires (zeros (goal.at.returns c).After-fill) c.put_gates.ensures
