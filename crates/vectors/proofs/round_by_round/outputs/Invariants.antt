use mathlib.Core.Path.{◌≡◌}
use Prim.Native.Nat.{◌^◌, ◌<◌}
use Rattle.kreyvium.specs.Kreyvium.{rounds}
use Rattle.kreyvium.specs.Words.{state_of}
use Rattle.vectors.proofs.Drawing.{Drawn}
use Rattle.vectors.proofs.round_by_round.outputs.Given as goal

abbrev pub invariant-loop-i : goal.invariant-loop-i
invariant-loop-i l = (l.z < 2 ^ l.i) × (state_of l.t ≡ rounds l.i (state_of l.initial.t)) × Drawn l.i l.z (state_of l.initial.t)
