use mathlib.Core.Path.{◌≡◌}
use Rattle.kreyvium.specs.Kreyvium.{rounds}
use Rattle.kreyvium.specs.Words.{state_of}
use Rattle.vectors.proofs.round_by_round.warmed.Given as goal

abbrev pub invariant-loop-i : goal.invariant-loop-i
invariant-loop-i l = state_of l.t ≡ rounds l.i (state_of l.initial.t)
