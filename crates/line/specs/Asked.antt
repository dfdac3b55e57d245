-- What a whole input asks. docs/RULES.md, "The printing program": one line "d n", decimals of 1 to 3 digits without
-- needless zeros, one space, newline. `asked_line` and `asked_only` say that `asked_of` is this and nothing else.
use Rattle.std.specs.Prelude.{ℕ, zero, suc, ◌+◌, ◌*◌, ◌-◌, ◌≤◌, ◌≡◌, List, [], ◌∷◌, ◌++◌, length, get_or, eqb, Option, Some, None}
use Rattle.std.specs.Char.{is_ascii_digit}
use Rattle.answer.specs.Choose.{choose}
use Rattle.line.specs.declared.Line.{Line}
use Rattle.line.specs.declared.Number.{Number}
use Rattle.line.specs.Decimal.{decimal}

-- the line "d n"
unfoldable pub line_of : ℕ → ℕ → List ℕ
line_of d n = decimal d ++ 32 ∷ decimal n ++ 10 ∷ []

-- what a line is
pub record IsLine (s : List ℕ) (d n : ℕ) : Type 0 where
  pub line : s ≡ line_of d n
  pub first : d ≤ 999
  pub second : n ≤ 999

-- the line that asks for d and n
abbrev pub asking : ℕ → ℕ → Option Line
asking d n = Some (record { d = d; n = n })

-- a number, and the place past it
abbrev pub read : ℕ → ℕ → Option Number
read v p = Some (record { value = v; past = p })

-- the value of the digit that is byte i, '0' to '9'
unfoldable pub digit_at : List ℕ → ℕ → Option ℕ
digit_at s i = let b = get_or s i 0 in choose (is_ascii_digit b) (Some (b - 48)) None

-- The number of 1 to 3 digits that begins at byte i, and the place past it, by the digits at i, i + 1 and i + 2. After a first
-- digit '0' no digit is read, and none after three.
unfoldable pub number_of : ℕ → Option ℕ → Option ℕ → Option ℕ → Option Number
number_of i None y z = None
number_of i (Some zero) y z = read 0 (i + 1)
number_of i (Some (suc a)) None z = read (suc a) (i + 1)
number_of i (Some (suc a)) (Some b) None = read (suc a * 10 + b) (i + 2)
number_of i (Some (suc a)) (Some b) (Some c) = read (suc a * 100 + b * 10 + c) (i + 3)

unfoldable pub number_at : List ℕ → ℕ → Option Number
number_at s i = number_of i (digit_at s i) (digit_at s (i + 1)) (digit_at s (i + 2))

-- a newline, and nothing after it
unfoldable pub ended_by : List ℕ → ℕ → Option Number → Option Line
ended_by s d None = None
ended_by s d (Some q) = choose (eqb (get_or s q.past 0) 10) (choose (eqb (length s) (q.past + 1)) (asking d q.value) None) None

-- a space, and a number after it
unfoldable pub followed : List ℕ → Option Number → Option Line
followed s None = None
followed s (Some q) = choose (eqb (get_or s q.past 0) 32) (ended_by s q.value (number_at s (q.past + 1))) None

unfoldable pub asked_of : List ℕ → Option Line
asked_of s = followed s (number_at s 0)
