-- What the call answers. docs/RULES.md, "Answer numbers".
use Rattle.std.specs.Prelude.{ℕ, List, length}
use Rattle.answer.specs.Answers.{Answer, ◌▹◌}
use Rattle.answer.specs.Bits.{bits_answer}
use Rattle.netlist.specs.Words.{words}
use Rattle.instance.specs.Judging.{numbers_answer}
use Rattle.answer.specs.Judges.{length_answer, room_answer}
use Rattle.rounds.specs.Gates.{kreyvium_net}

-- lists: IV, result. 2, and 3 and 4 on the IV
unfoldable pub iv_answer : ℕ → List ℕ → Answer
iv_answer m iv = numbers_answer 6 m ▹ length_answer 1 (length iv) 128 ▹ bits_answer 1 iv

-- and 8 on the result, for which so many words are lent
unfoldable pub emit_kreyvium_answer : ℕ → List ℕ → ℕ → Answer
emit_kreyvium_answer m iv room = iv_answer m iv ▹ room_answer 2 room (length (words (kreyvium_net iv m)))
