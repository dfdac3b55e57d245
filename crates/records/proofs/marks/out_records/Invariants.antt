use Prim.Native.Nat.{◌*◌, ◌+◌, ◌≤◌}
use mathlib.Core.Path.{◌≡◌}
use lib.ListN.{length}
use Rattle.std.specs.Prelude.{Ok}
use Rattle.answer.specs.Answers.{each}
use Rattle.records.specs.File.{out_size, out_record}
use Rattle.records.proofs.marks.out_records.Given as goal

abbrev pub invariant-loop-o : goal.invariant-loop-o
invariant-loop-o l = (each l.o (out_record l.s l.from) ≡ Ok tt) × (l.at ≡ l.from + out_size * l.o) × (l.at ≤ length l.s)
