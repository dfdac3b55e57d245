use mathlib.Core.Path.{◌≡◌}
use lib.Seq.{sets}
use Rattle.file.specs.File.{words_bytes}
use Rattle.file.proofs.bytes.put_words.Given as goal

abbrev pub invariant-loop-j : goal.invariant-loop-j
invariant-loop-j l = l.out ≡ sets l.initial.out l.at (words_bytes l.words 0 l.j)
