-- What the call of Kreyvium enciphering answers and leaves. docs/RULES.md, "For C": 2, 3, 4, 8; then the lower list. Its lists are key 1,
-- record 2, IV 3, result 4.
use Rattle.answer.specs.declared.Reason.TheVariants.{Record}
use Rattle.std.specs.Prelude.{ℕ, ◌≡◌, List, length}
use Rattle.answer.specs.Answers.{Answer, ◌▹◌, refuse}
use Rattle.answer.specs.Bits.{bits_answer, added}
use Rattle.answer.specs.Fronts.{left}
use Rattle.instance.specs.Judging.{outside}
use Rattle.instance.specs.Keys.{key_in, key_length_answer, key_bits_answer}
use Rattle.answer.specs.Judges.{length_answer, room_answer}
use Rattle.kreyvium.specs.Kreyvium.{stream_of}
use Rattle.daemon.specs.Packed.{packed_of}

-- where n places are lent for the result
unfoldable pub kreyvium_answer : ℕ → List ℕ → List ℕ → List ℕ → ℕ → Answer
kreyvium_answer m key rec iv n =
    refuse Record 0 0 (outside 1 64 m)
    ▹ (key_length_answer 1 6 (length key) ▹ length_answer 2 (length rec) m ▹ length_answer 3 (length iv) 128)
    ▹ (key_bits_answer 1 6 key ▹ bits_answer 2 rec ▹ bits_answer 3 iv)
    ▹ room_answer 4 n m

-- what a call answers and leaves in the result: each bit of the record and the keystream bit at its place, added
pub record Enciphered (m : ℕ) (key rec iv out : List ℕ) (r : ℕ) (out' : List ℕ) : Type 0 where
  pub answered : r ≡ packed_of (kreyvium_answer m key rec iv (length out))
  pub written : out' ≡ left (kreyvium_answer m key rec iv (length out)) (added rec (stream_of (key_in 6 key) iv m)) out
