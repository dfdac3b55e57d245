-- A port record. docs/RULES.md, "Frames": 64 bits, high bit first: port 16, admin up 1, link up 1, errors 22, load 24.
use Rattle.std.specs.Prelude.{ℕ, ◌^◌, ◌<◌, ◌≡◌, List, ◌++◌, length, leb, Result, Err, Ok}
use Rattle.answer.specs.Answers.{Answer, ◌▹◌, giving}
use Rattle.answer.specs.Bits.{bits_answer}
use Rattle.answer.specs.Choose.{choose}
use Rattle.answer.specs.Fronts.{left}
use Rattle.answer.specs.Judges.{length_answer, room_answer}
use Rattle.answer.specs.declared.Refusal.{Refusal}
use Rattle.port.specs.declared.Port.{Port}
use Rattle.port.specs.declared.Field.{Field}
use Rattle.port.specs.declared.Field.TheVariants.{Number, Admin, Link, Errors, Load}
use Rattle.port.specs.Bytes.{value_at, high_first}

abbrev pub port_with : ℕ → ℕ → ℕ → ℕ → ℕ → Port
port_with number admin link errors load = record { number = number; admin = admin; link = link; errors = errors; load = load }

-- the 64 bits of a port's fields
unfoldable pub bits_of : Port → List ℕ
bits_of p = high_first 16 p.number ++ high_first 1 p.admin ++ high_first 1 p.link ++ high_first 22 p.errors ++ high_first 24 p.load

-- and back
unfoldable pub port_of : List ℕ → Port
port_of b = port_with (value_at 2 b 0 16) (value_at 2 b 16 1) (value_at 2 b 17 1) (value_at 2 b 18 22) (value_at 2 b 40 24)

-- each value has room in its field
pub record Fits (p : Port) : Type 0 where
  pub number : p.number < 2 ^ 16
  pub admin : p.admin < 2 ^ 1
  pub link : p.link < 2 ^ 1
  pub errors : p.errors < 2 ^ 22
  pub load : p.load < 2 ^ 24

-- a field's place, counted from 1
abbrev pub field_number : Field → ℕ
field_number Number = 1
field_number Admin = 2
field_number Link = 3
field_number Errors = 4
field_number Load = 5

-- field f holds x, which is too large for its width w; or what comes then
unfoldable pub within : {X : Type 0} → Field → ℕ → ℕ → Result X Field → Result X Field
within f w x then = choose (leb (2 ^ w) x) (Err f) then

-- a port of these values, or the first field whose value is too large for it
unfoldable pub port_made : ℕ → ℕ → ℕ → ℕ → ℕ → Result Port Field
port_made number admin link errors load =
    within Number 16 number
    (within Admin 1 admin
    (within Link 1 link
    (within Errors 22 errors
    (within Load 24 load
    (Ok (port_with number admin link errors load))))))

-- 3, 4 on the bits, which are list 1
unfoldable pub fields_answer : List ℕ → Answer
fields_answer b = length_answer 1 (length b) 64 ▹ bits_answer 1 b

-- the port that an accepted list of bits is; else the refusal
abbrev pub found_by : Answer → Port → Result Port Refusal
found_by = giving

-- what writing the bits answers, 8 on the result, which is list 1, and leaves in it
pub record BitsWritten (p : Port) (out : List ℕ) (r : Answer) (out' : List ℕ) : Type 0 where
  pub answered : r ≡ room_answer 1 (length out) 64
  pub written : out' ≡ left r (bits_of p) out
