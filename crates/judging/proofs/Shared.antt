-- For the judge of Kreyvium: without indices nothing but room is judged after the bits.
use Prim.Native.Nat.{ℕ}
use mathlib.Core.Path.{◌≡◌, refl, ◌∙◌}
use mathlib.Core.List.{List}
use native.Mathlib.Nat.{mul-zero}
use lib.ListN.{length}
use Rattle.std.specs.Prelude.{Ok}
use Rattle.answer.specs.Answers.{◌▹◌, refuse}
use Rattle.answer.specs.First.{first_from}
use Rattle.answer.specs.Judges.{first_answer}
use Rattle.answer.proofs.Rows.{first_done, three_of}
use Rattle.answer.proofs.Judges.{length_done}
use Rattle.instance.specs.Table.{sizes_of}
use Rattle.instance.specs.Judging.{rows_answer, white_answer, wiring_lengths, wiring_rows}
use Rattle.judging.specs.Inner.{record_lengths, result_answer}

-- its lengths leave no index
pub no_indices : (m key rec idx iv : ℕ) → record_lengths 6 m key rec idx iv ≡ Ok tt → idx ≡ 0
unfolding record_lengths wiring_lengths sizes_of
no_indices m key rec idx iv e = length_done 3 idx _ (first_done _ _ (three_of _ _ _ e)) ∙ mul-zero m

pub room_alone : (m n : ℕ) (idx iv : List ℕ) → length idx ≡ 0 → result_answer m n ≡ wiring_rows 3 6 idx iv ▹ result_answer m n
unfolding wiring_rows rows_answer first_answer white_answer ◌▹◌ refuse first_from
room_alone m n idx iv e = rw e refl
