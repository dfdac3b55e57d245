use Prim.Native.Nat.{◌*◌}
use mathlib.Core.Path.{◌≡◌}
use Rattle.answer.specs.Fronts.{over}
use Rattle.filter.specs.Filter.{tab}
use Rattle.cipher.proofs.Block.{block_bit}
use Rattle.cipher.proofs.stream.put_eights.Given as goal

abbrev pub invariant-loop-e : goal.invariant-loop-e
invariant-loop-e l = l.out ≡ over (tab (block_bit l.z) (8 * l.e)) l.initial.out
