use mathlib.Core.Path.{◌≡◌}
use lib.Seq.{sets}
use Rattle.netlist.specs.Words.{header_words}
use Rattle.records.specs.Bytes.{joined}
use Rattle.records.specs.File.{four_in, start_of}
use Rattle.file.proofs.read.read_gates.Given as goal

abbrev pub invariant-loop-g : goal.invariant-loop-g
invariant-loop-g l = (l.out ≡ sets l.initial.out header_words (joined l.g (four_in l.form l.s))) × (l.at ≡ start_of l.form l.s l.g)
