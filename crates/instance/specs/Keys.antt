-- A key as it is lent: N bits, a byte a bit. docs/RULES.md, "Six instances". Nothing else says how a key is lent.
use Rattle.answer.specs.Answers.{Answer}
use Rattle.std.specs.Prelude.{ℕ, List}
use Rattle.answer.specs.Judges.{length_answer}
use Rattle.answer.specs.Bits.{bits_answer}
use Rattle.instance.specs.Table.{key_bits}
use Rattle.instance.specs.Wired.{Bits}

-- what the rules let a caller lend for a key
unfoldable pub Keyed : ℕ → List ℕ → Type 0
Keyed inst key = Bits (key_bits inst) key

-- the N bits of the key that was lent
unfoldable pub key_in : ℕ → List ℕ → List ℕ
key_in inst key = key

-- 3: a key, list l, that has not the length of the instance's
unfoldable pub key_length_answer : ℕ → ℕ → ℕ → Answer
key_length_answer l inst len = length_answer l len (key_bits inst)

-- 4: a byte of a key of that length that is not as it should be
unfoldable pub key_bits_answer : ℕ → ℕ → List ℕ → Answer
key_bits_answer l inst key = bits_answer l key
