-- What the cipher calls answer, in the rules' order: 1, 2, 3, 4, 5, 6, 7, 8; then the lower list.
use Rattle.std.specs.Prelude.{ℕ, List, length}
use Rattle.answer.specs.Answers.{Answer, ◌▹◌}
use Rattle.answer.specs.Judges.{length_answer, room_answer}
use Rattle.answer.specs.Bits.{bits_answer}
use Rattle.instance.specs.Judging.{numbers_answer, wiring_lengths, wiring_rows}
use Rattle.instance.specs.Keys.{key_length_answer, key_bits_answer}

-- lists: key, indices, whitening or IV, result, for which n places are lent
unfoldable pub keystream_answer : ℕ → ℕ → List ℕ → List ℕ → List ℕ → ℕ → Answer
keystream_answer inst m key idx wh n =
    numbers_answer inst m
    ▹ (key_length_answer 1 inst (length key) ▹ wiring_lengths 2 inst m (length idx) (length wh))
    ▹ (key_bits_answer 1 inst key ▹ bits_answer 3 wh)
    ▹ wiring_rows 2 inst idx wh
    ▹ room_answer 4 n m

-- lists: key, record, indices, whitening or IV, result, for which n places are lent
unfoldable pub encipher_answer : ℕ → ℕ → List ℕ → List ℕ → List ℕ → List ℕ → ℕ → Answer
encipher_answer inst m key rec idx wh n =
    numbers_answer inst m
    ▹ (key_length_answer 1 inst (length key) ▹ length_answer 2 (length rec) m ▹ wiring_lengths 3 inst m (length idx) (length wh))
    ▹ (key_bits_answer 1 inst key ▹ bits_answer 2 rec ▹ bits_answer 4 wh)
    ▹ wiring_rows 3 inst idx wh
    ▹ room_answer 5 n m
