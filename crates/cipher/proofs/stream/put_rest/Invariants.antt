use mathlib.Core.Path.{◌≡◌}
use Rattle.answer.specs.Fronts.{over}
use Rattle.filter.specs.Filter.{tab}
use Rattle.cipher.proofs.Block.{block_bit}
use Rattle.cipher.proofs.stream.put_rest.Given as goal

abbrev pub invariant-loop-i : goal.invariant-loop-i
invariant-loop-i l = l.out ≡ over (tab (block_bit l.z) l.i) l.initial.out
