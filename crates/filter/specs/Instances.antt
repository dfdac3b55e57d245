-- The filters of instances 1 to 5, by the degrees of their monomials. docs/RULES.md, "Six instances".
use Rattle.std.specs.Prelude.{ℕ, zero, suc, ◌+◌, ◌%◌, List, [], ◌∷◌, ◌++◌, take, drop, replicate, eqb}
use Rattle.answer.specs.Choose.{choose}
use Rattle.instance.specs.Table.{row_bits}
use Rattle.filter.specs.Filter.{var, tab, sum_of, threshold}

-- the degrees 1, 2, .. k of a triangle; n copies of a list end to end
abbrev pub degrees_to : ℕ → List ℕ
degrees_to zero = []
degrees_to (suc k) = degrees_to k ++ suc k ∷ []

abbrev pub copies : ℕ → List ℕ → List ℕ
copies zero s = []
copies (suc n) s = s ++ copies n s

-- the linear ones, then half the quadratic number of pairs, then each triangle
abbrev pub flip_degrees : ℕ → ℕ → ℕ → ℕ → List ℕ
flip_degrees linear pairs triangles k = replicate linear 1 ++ replicate pairs 2 ++ copies triangles (degrees_to k)

unfoldable pub degrees_of : ℕ → List ℕ
degrees_of zero = []
degrees_of (suc zero) = flip_degrees 42 64 8 9
degrees_of (suc (suc zero)) = flip_degrees 82 112 8 16
degrees_of (suc (suc (suc zero))) = replicate 128 1 ++ replicate 64 2 ++ replicate 80 4 ++ replicate 80 8
degrees_of (suc (suc (suc (suc zero)))) = replicate 128 1 ++ replicate 64 2 ++ replicate 64 16
degrees_of (suc (suc (suc (suc (suc zero))))) = replicate 81 1
degrees_of (suc (suc (suc (suc (suc (suc i)))))) = []

-- FiLIP-144: threshold 32 of the 63 variables after the first 81
unfoldable pub tail_of : ℕ → List ℕ → ℕ
tail_of inst xs = choose (eqb inst 5) (threshold 32 (take 63 (drop 81 xs))) 0

unfoldable pub filter_of : ℕ → List ℕ → ℕ
filter_of inst xs = (sum_of (degrees_of inst) xs + tail_of inst xs) % 2

-- a bit of the keystream of instances 1 to 5: the filter over the variables of a row
unfoldable pub row_bit : ℕ → List ℕ → List ℕ → List ℕ → ℕ
row_bit inst key row w = filter_of inst (tab (var key row w) (row_bits inst))
