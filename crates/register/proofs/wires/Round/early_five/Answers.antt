use Rattle.std.proofs.Common.{rules}
use Rattle.register.proofs.Places.{fives}
use Rattle.register.proofs.wires.Round.early_five.Goals as goal

pub returns : goal.returns
returns c =
    let x = c.args.self in
    fives x.net.iv.now x.net.m x.net.iv_whole _ x.n _ _ c.places.ensures.value
    (search rules) (search rules) (search rules) (search rules) (search rules)
