-- Words in bytes, the low byte first, and lists end to end.
use Rattle.std.specs.Prelude.{ℕ, zero, suc, ◌+◌, ◌*◌, List, [], ◌++◌, length, get_or, leb}
use Rattle.answer.specs.Choose.{choose}

-- the word that four bytes from p on make
unfoldable pub word_at : List ℕ → ℕ → ℕ
word_at s p = get_or s p 0 + 256 * get_or s (p + 1) 0 + 65536 * get_or s (p + 2) 0 + 16777216 * get_or s (p + 3) 0

-- the same where the four are all there, else 0
unfoldable pub whole_word : List ℕ → ℕ → ℕ
whole_word s p = choose (leb (p + 4) (length s)) (word_at s p) 0

-- f 0, f 1, .. f (n - 1) end to end
unfoldable pub joined : ℕ → (ℕ → List ℕ) → List ℕ
joined zero f = []
joined (suc n) f = joined n f ++ f n
