-- Digits as text.
use Rattle.std.specs.Prelude.{ℕ, ◌+◌, ltb}
use Rattle.answer.specs.Choose.{choose}

-- the ASCII code of '0' to '9', then 'A' to 'F'; that of '?' for a number which is no digit
unfoldable pub digit_of : ℕ → ℕ
digit_of n = choose (ltb n 10) (48 + n) (choose (ltb n 16) (55 + n) 63)
