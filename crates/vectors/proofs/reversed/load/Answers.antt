use Rattle.vectors.proofs.Turning.{both-turned, load_reversed}
use Rattle.vectors.proofs.reversed.load.Goals as goal

pub returns : goal.returns
returns c =
    load_reversed
    _
    _
    _
    _
    _
    _
    (both-turned _ _ _ _ c.turned-2.ensures c.turned.ensures)
    (both-turned _ _ _ _ c.turned-4.ensures c.turned-3.ensures)
    c.load-s.ensures
    c.with_stars.ensures
