-- Words as bytes.
use Rattle.std.specs.Prelude.{ℕ, ◌/◌, ◌%◌, ◌<◌, List, [], ◌∷◌, get_or}

-- a word's four bytes, the low one first
unfoldable pub little : ℕ → List ℕ
little x = x % 256 ∷ x / 256 % 256 ∷ x / 256 / 256 % 256 ∷ x / 256 / 256 / 256 % 256 ∷ []

-- what a list of bytes has
pub record Bytes (s : List ℕ) : Type 0 where
  pub byte : (i : ℕ) → get_or s i 0 < 256
