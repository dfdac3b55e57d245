use Rattle.filter.proofs.Sums.{last_part}
use Rattle.filter.proofs.last_part.Goals as goal

pub returns : goal.returns
returns c =
    let rest = c.split_at.result.1.now in
    last_part c.args.x.now rest c.split_at-2.result.0.now (rw (← c.min.ensures) c.split_at.ensures.back) (rw (← c.min-2.ensures) c.split_at-2.ensures.front)
