use Rattle.kreyvium.proofs.Blocks.{one_round}
use Rattle.kreyvium.proofs.Streams.{registers_eq}
use Rattle.kreyvium.specs.Words.{state_of}
use native.Mathlib.Omega.{arith}
use mathlib.Core.Path.{◌∙◌}
use Rattle.kreyvium.proofs.State.round.Goals as goal

pub returns : goal.returns
unfolding state_of
returns c =
    registers_eq
    (c.entered.ensures 93 (omega arith))
    (c.entered-2.ensures 84 (omega arith))
    (c.entered-3.ensures 111 (omega arith))
    (c.entered-4.ensures 128 (omega arith))
    (c.entered-5.ensures 128 (omega arith))
    ∙ one_round _ _ c.entry-e.ensures
