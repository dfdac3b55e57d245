use mathlib.Core.Path.{◌≡◌}
use Rattle.answer.specs.Fronts.{over}
use Rattle.frames.specs.Frames.{records_in}
use Rattle.frames.specs.Inner.{key_two}
use Rattle.frames.proofs.seal.put_records.Given as goal

abbrev pub invariant-loop-i : goal.invariant-loop-i
invariant-loop-i l = l.records ≡ over (records_in (key_two l.key) l.file l.i) l.initial.records
