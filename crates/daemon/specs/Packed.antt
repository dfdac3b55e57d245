-- An answer in one number, for C.
use Rattle.std.specs.Prelude.{ℕ, ◌+◌, ◌*◌, ◌<◌, min}
use Rattle.answer.specs.Answers.{Answer, number_of, list_of, place_of}

-- 2 ^ 48 - 1: a place that is larger is given as this
abbrev pub most_place : ℕ
most_place = 281474976710655

-- the number in the lowest 8 bits, the list in the next 8, the place in the 48 above
unfoldable pub packed_of : Answer → ℕ
packed_of a = number_of a + 256 * list_of a + 65536 * min (place_of a) most_place

-- the same of any answer: a number or a list above 255 is given as 255
unfoldable pub capped_of : Answer → ℕ
capped_of a = min (number_of a) 255 + 256 * min (list_of a) 255 + 65536 * min (place_of a) most_place

-- number and list have room in 8 bits
pub record Packable (a : Answer) : Type 0 where
  pub number : number_of a < 256
  pub list : list_of a < 256
