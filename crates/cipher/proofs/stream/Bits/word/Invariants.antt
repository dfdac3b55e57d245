use Prim.Native.Nat.{◌+◌, ◌*◌, ◌-◌}
use mathlib.Core.Path.{◌≡◌}
use Rattle.cipher.proofs.Halves.{part}
use Rattle.cipher.proofs.stream.Bits.word.Given as goal

abbrev pub invariant-loop-e : goal.invariant-loop-e
invariant-loop-e l = l.w ≡ part l.self.list.now (l.from + 8 * l.e) (64 - 8 * l.e)
