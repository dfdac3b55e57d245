-- Inner: only contracts of private functions cite this. What encipher and Kreyvium judge alike.
use Rattle.std.specs.Prelude.{ℕ}
use Rattle.answer.specs.Answers.{Answer, ◌▹◌}
use Rattle.answer.specs.Judges.{length_answer, room_answer}
use Rattle.instance.specs.Judging.{wiring_lengths}
use Rattle.instance.specs.Keys.{key_length_answer}

-- 3 on lists of these lengths
unfoldable pub record_lengths : ℕ → ℕ → ℕ → ℕ → ℕ → ℕ → Answer
record_lengths inst m key rec idx wh =
    key_length_answer 1 inst key ▹ length_answer 2 rec m ▹ wiring_lengths 3 inst m idx wh

-- 8 on the result, for which n places are lent
unfoldable pub result_answer : ℕ → ℕ → Answer
result_answer m n = room_answer 5 n m
