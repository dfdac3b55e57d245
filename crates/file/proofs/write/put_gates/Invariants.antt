use Prim.Native.Nat.{◌+◌}
use mathlib.Core.Path.{◌≡◌}
use lib.ListN.{length}
use lib.Seq.{sets}
use Rattle.records.specs.Bytes.{joined}
use Rattle.records.specs.File.{head_size}
use Rattle.file.specs.File.{gate_bytes}
use Rattle.file.proofs.write.put_gates.Given as goal

abbrev pub invariant-loop-g : goal.invariant-loop-g
invariant-loop-g l =
    (l.out ≡ sets l.initial.out head_size (joined l.g (gate_bytes l.form l.net)))
    × (l.at ≡ head_size + length (joined l.g (gate_bytes l.form l.net)))
