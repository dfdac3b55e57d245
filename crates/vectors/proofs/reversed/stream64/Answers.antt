use mathlib.Core.Path.{◌∙◌, ap}
use Rattle.kreyvium.specs.Kreyvium.{stream, rounds}
use Rattle.vectors.proofs.reversed.stream64.Goals as goal

pub returns : goal.returns
returns c = λ n h.
    c.outputs64.ensures n h
    ∙ ap (stream n) (c.warmed.ensures ∙ ap (rounds 1152) c.load.ensures)
