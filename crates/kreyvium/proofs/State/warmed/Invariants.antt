use Prim.Native.Nat.{◌*◌}
use mathlib.Core.Path.{◌≡◌}
use Rattle.kreyvium.specs.Kreyvium.{rounds}
use Rattle.kreyvium.specs.Words.{state_of}
use Rattle.kreyvium.proofs.State.warmed.Given as goal

abbrev pub invariant-loop : goal.invariant-loop
invariant-loop l = state_of l.s ≡ rounds (128 * l.counter) (state_of l.initial.s)
