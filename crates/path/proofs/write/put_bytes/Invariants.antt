use mathlib.Core.Path.{◌≡◌}
use Prim.Native.Nat.{◌+◌}
use lib.ListN.{length, drop}
use lib.Seq.{sets}
use Rattle.path.proofs.write.put_bytes.Given as goal

abbrev pub invariant-loop-i : goal.invariant-loop-i
invariant-loop-i l = (sets l.out (l.at + l.i) (drop l.i l.from) ≡ sets l.initial.out l.at l.from) × (length l.out ≡ length l.initial.out)
