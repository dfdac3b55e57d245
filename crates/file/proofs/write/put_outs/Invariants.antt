use mathlib.Core.Path.{◌≡◌}
use lib.Seq.{sets}
use Rattle.records.specs.Bytes.{joined}
use Rattle.file.specs.File.{out_bytes}
use Rattle.file.proofs.write.put_outs.Given as goal

abbrev pub invariant-loop-o : goal.invariant-loop-o
invariant-loop-o l = l.out ≡ sets l.initial.out l.from (joined l.o (out_bytes l.net))
