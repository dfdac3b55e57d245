-- Keystream and enciphering of the six instances.
use Rattle.answer.specs.Answers.{Answer}
use Rattle.std.specs.Prelude.{ℕ, ◌≡◌, List, length, eqb}
use Rattle.answer.specs.Bits.{added}
use Rattle.answer.specs.Choose.{choose}
use Rattle.answer.specs.Fronts.{left}
use Rattle.filter.specs.Filter.{tab}
use Rattle.kreyvium.specs.Kreyvium.{stream_of}
use Rattle.instance.specs.Keys.{key_in}
use Rattle.judging.specs.Judging.{keystream_answer, encipher_answer}
use Rattle.cipher.specs.Rows.{stream_bit}

-- the m keystream bits under a key of these bits; Kreyvium takes one IV for the whole record
unfoldable pub keystream_of : ℕ → ℕ → List ℕ → List ℕ → List ℕ → List ℕ
keystream_of inst m bits idx wh = choose (eqb inst 6) (stream_of bits wh m) (tab (stream_bit inst bits idx wh) m)

-- a record and its keystream; deciphering does the same
unfoldable pub encipher_of : ℕ → ℕ → List ℕ → List ℕ → List ℕ → List ℕ → List ℕ
encipher_of inst m bits rec idx wh = added rec (keystream_of inst m bits idx wh)

-- what a call answers and leaves in the result, where a key is lent
pub record Streamed (inst m : ℕ) (key idx wh out : List ℕ) (r : Answer) (out' : List ℕ) : Type 0 where
  pub answered : r ≡ keystream_answer inst m key idx wh (length out)
  pub written : out' ≡ left r (keystream_of inst m (key_in inst key) idx wh) out

pub record Ciphered (inst m : ℕ) (key rec idx wh out : List ℕ) (r : Answer) (out' : List ℕ) : Type 0 where
  pub answered : r ≡ encipher_answer inst m key rec idx wh (length out)
  pub written : out' ≡ left r (encipher_of inst m (key_in inst key) rec idx wh) out
