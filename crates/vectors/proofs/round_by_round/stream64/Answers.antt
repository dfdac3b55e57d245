use mathlib.Core.Path.{◌∙◌, ap}
use Rattle.kreyvium.specs.Kreyvium.{stream, stream_of, rounds}
use Rattle.vectors.proofs.round_by_round.stream64.Goals as goal

pub returns : goal.returns
unfolding stream_of
returns c = λ n h.
    c.outputs.ensures n h
    ∙ ap (stream n) (c.warmed.ensures ∙ ap (rounds 1152) c.load.ensures)
