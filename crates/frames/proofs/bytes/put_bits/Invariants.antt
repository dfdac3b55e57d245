use Prim.Native.Nat.{◌*◌}
use mathlib.Core.Path.{◌≡◌}
use lib.ListN.{take}
use Rattle.answer.specs.Fronts.{over}
use Rattle.kreyvium.specs.Words.{tops}
use Rattle.frames.proofs.bytes.put_bits.Given as goal

abbrev pub invariant-loop-i : goal.invariant-loop-i
invariant-loop-i l = l.out ≡ over (take (8 * l.i) (tops 64 l.x)) l.initial.out
