use mathlib.Core.Path.{◌≡◌}
use lib.Seq.{sets}
use Rattle.records.specs.Bytes.{joined}
use Rattle.records.specs.File.{out_word}
use Rattle.file.proofs.read.read_outs.Given as goal

abbrev pub invariant-loop-o : goal.invariant-loop-o
invariant-loop-o l = l.out ≡ sets l.initial.out l.base (joined l.o (out_word l.s l.from))
