use Prim.Native.Nat.{◌≤◌}
use mathlib.Core.Path.{◌≡◌}
use lib.ListN.{length}
use Rattle.std.specs.Prelude.{Ok}
use Rattle.answer.specs.Answers.{each}
use Rattle.records.specs.File.{gate_record, start_of}
use Rattle.records.proofs.marks.gate_records.Given as goal

abbrev pub invariant-loop-g : goal.invariant-loop-g
invariant-loop-g l = (each l.g (gate_record l.form l.s) ≡ Ok tt) × (l.at ≡ start_of l.form l.s l.g) × (l.at ≤ length l.s)
