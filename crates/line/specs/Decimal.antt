-- Decimal numbers as text. Here and in the other files a byte is a number, the ASCII code of its character.
use Rattle.std.specs.Prelude.{ℕ, zero, suc, ◌+◌, ◌/◌, ◌%◌, List, [], ◌∷◌, ◌++◌, ltb}
use Rattle.answer.specs.Choose.{choose}

-- '0' is 48. The digits of n, the most significant first and no needless zeros, in at most k + 1 digits
unfoldable pub decimal_digits : ℕ → ℕ → List ℕ
decimal_digits zero n = (48 + n) ∷ []
decimal_digits (suc k) n = choose (ltb n 10) ((48 + n) ∷ []) (decimal_digits k (n / 10) ++ (48 + n % 10) ∷ [])

unfoldable pub decimal : ℕ → List ℕ
decimal n = decimal_digits n n
