-- Sums of monomials and thresholds over bits, for any degrees. Sums are modulo 2.
use Rattle.std.specs.Prelude.{ℕ, zero, suc, ◌+◌, ◌*◌, ◌%◌, List, [], ◌∷◌, ◌++◌, get_or, take, drop, leb}
use Rattle.answer.specs.Choose.{choose}

-- variable j of a row: the key's bit at the row's index j, and whitening bit j
unfoldable pub var : List ℕ → List ℕ → List ℕ → ℕ → ℕ
var key row w j = (get_or key (get_or row j 0) 0 + get_or w j 0) % 2

-- f 0, f 1, .., of n values
unfoldable pub tab : (ℕ → ℕ) → ℕ → List ℕ
tab f zero = []
tab f (suc n) = tab f n ++ f n ∷ []

-- a monomial: the product of its variables
unfoldable pub prod : List ℕ → ℕ
prod [] = 1
prod (x ∷ xs) = x * prod xs

-- the sum of monomials of the given degrees; variables are used in order, each once
unfoldable pub sum_of : List ℕ → List ℕ → ℕ
sum_of [] xs = 0
sum_of (d ∷ ds) xs = (prod (take d xs) + sum_of ds (drop d xs)) % 2

-- how many of the bits are 1
unfoldable pub ones : List ℕ → ℕ
ones [] = 0
ones (x ∷ xs) = x % 2 + ones xs

-- 1 exactly if at least d of the bits are 1
unfoldable pub threshold : ℕ → List ℕ → ℕ
threshold d xs = choose (leb d (ones xs)) 1 0
