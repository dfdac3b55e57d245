-- The filters as the papers define them. x i is variable i.
use Rattle.std.specs.Prelude.{ℕ, zero, suc, ◌+◌, ◌*◌, ◌-◌, ◌/◌, ◌%◌, List, [], ◌∷◌}
use Rattle.filter.specs.Filter.{tab, threshold}

-- f 0 + .. + f (n - 1), and f 0 · .. · f (n - 1)
unfoldable pub sum : ℕ → (ℕ → ℕ) → ℕ
sum zero f = 0
sum (suc n) f = (sum n f + f n) % 2

unfoldable pub product : ℕ → (ℕ → ℕ) → ℕ
product zero f = 1
product (suc n) f = product n f * f n

-- 000, Definition 13: the linear function of n variables
abbrev pub linear : ℕ → (ℕ → ℕ) → ℕ
linear n x = sum n x

-- 000, Definition 14: the quadratic function of n pairs
abbrev pub quadratic : ℕ → (ℕ → ℕ) → ℕ
quadratic n x = sum n (λ i. x (2 * i) * x (2 * i + 1))

-- 000, Definition 15: the triangular function of k(k+1)/2 variables, monomials of degree 1, .. k. That of degree i begins
-- i(i-1)/2 variables in. The sum counts from 0, so the degree is suc i
abbrev pub triangle_size : ℕ → ℕ
triangle_size k = k * (k + 1) / 2

abbrev pub triangle_start : ℕ → ℕ
triangle_start i = i * (i - 1) / 2

abbrev pub triangular : ℕ → (ℕ → ℕ) → ℕ
triangular k x = sum k (λ i. product (suc i) (λ j. x (triangle_start (suc i) + j)))

-- 000, section 3.3: n1 variables of the linear part, n2 of the quadratic, then nb triangles of degree k
unfoldable pub flip : ℕ → ℕ → ℕ → ℕ → (ℕ → ℕ) → ℕ
flip n1 n2 nb k x =
    (linear n1 x
    + quadratic (n2 / 2) (λ i. x (n1 + i))
    + sum nb (λ t. triangular k (λ i. x (n1 + n2 + t * triangle_size k + i)))) % 2

-- 001, Definition 9: a direct sum of monomials by its vector: m1 monomials of degree 1, then m2 of degree 2, and so on; d is
-- the degree of the vector's first number, and the variables before at are used
unfoldable pub direct_sum : ℕ → List ℕ → ℕ → (ℕ → ℕ) → ℕ
direct_sum d [] at x = 0
direct_sum d (m ∷ ms) at x =
    (sum m (λ i. product d (λ j. x (at + d * i + j))) + direct_sum (suc d) ms (at + d * m) x) % 2

-- 128 of degree 1, 64 of degree 2, 80 of degree 4, 80 of degree 8
abbrev pub vector1216 : List ℕ
vector1216 = 128 ∷ 64 ∷ 0 ∷ 80 ∷ 0 ∷ 0 ∷ 0 ∷ 80 ∷ []

-- 128 of degree 1, 64 of degree 2, 64 of degree 16
abbrev pub vector1280 : List ℕ
vector1280 = 128 ∷ 64 ∷ 0 ∷ 0 ∷ 0 ∷ 0 ∷ 0 ∷ 0 ∷ 0 ∷ 0 ∷ 0 ∷ 0 ∷ 0 ∷ 0 ∷ 0 ∷ 64 ∷ []

-- The filters of instances 1 to 5 with the rules' numbers: FLIP-530, FLIP-1394, FiLIP-1216, FiLIP-1280, and FiLIP-144,
-- the sum of the first 81 variables and whether at least 32 of the 63 others are 1
unfoldable pub published : ℕ → (ℕ → ℕ) → ℕ
published zero x = 0
published (suc zero) x = flip 42 128 8 9 x
published (suc (suc zero)) x = flip 82 224 8 16 x
published (suc (suc (suc zero))) x = direct_sum 1 vector1216 0 x
published (suc (suc (suc (suc zero)))) x = direct_sum 1 vector1280 0 x
published (suc (suc (suc (suc (suc zero))))) x = (sum 81 x + threshold 32 (tab (λ i. x (81 + i)) 63)) % 2
published (suc (suc (suc (suc (suc (suc i)))))) x = 0
