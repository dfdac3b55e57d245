use mathlib.Core.Path.{◌≡◌}
use lib.ListN.{take}
use Rattle.answer.specs.Bits.{added}
use Rattle.answer.specs.Fronts.{over}
use Rattle.cipher.proofs.add.Given as goal

abbrev pub invariant-loop-i : goal.invariant-loop-i
invariant-loop-i l = l.out ≡ over (added (take l.i l.record) (take l.i l.initial.out)) l.initial.out
