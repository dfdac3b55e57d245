-- The degrees of instances 1 to 5 give the filters that the papers publish.
use Prim.Native.Nat.{ℕ, zero, suc, ◌+◌, ◌*◌, ◌-◌, ◌/◌, ◌%◌, ◌<◌, ◌≤◌}
use mathlib.Core.Path.{◌≡◌, refl, ap, ap₂, sym, ◌∙◌}
use mathlib.Core.List.{List, [], ◌∷◌, ◌++◌, append_assoc, append-nil}
use native.Mathlib.Omega.{arith}
use native.Mathlib.Nat.{add_assoc, mul_assoc, mul_comm, one-mul, mul-suc, suc-mul, mod-add-mod}
use native.Mathlib.Numerals.{add-one}
use lib.ListN.{get_or, take, drop, replicate, length-drop, replicate-append-replicate}
use lib.Seq.{take-suc, take_all, drop-drop, drop_at, get_or-drop}
use Rattle.instance.specs.Table.{sizes_of, row_bits}
use Rattle.filter.specs.Filter.{tab, prod, sum_of, threshold}
use Rattle.filter.specs.Papers.{sum, product, triangle_size, triangle_start, triangular, flip, direct_sum, vector1216, vector1280, published}
use Rattle.filter.specs.Instances.{degrees_to, copies, flip_degrees, degrees_of, tail_of, filter_of}
use Rattle.filter.proofs.Sums.{regroup, sum_of-bit}
use Rattle.filter.proofs.Tab.{tab-length, tab-at, tab_add}

pointwise : {f g : ℕ → ℕ} → ((n : ℕ) → f n ≡ g n) → f ≡ g
pointwise h i n = h n i

-- how many variables the degrees use
unfoldable pub total : List ℕ → ℕ
total [] = 0
total (d ∷ ds) = d + total ds

-- the sum of monomials of the given degrees over the variables x at, x (at + 1), ..
unfoldable pub sum_at : List ℕ → ℕ → (ℕ → ℕ) → ℕ
sum_at [] at x = 0
sum_at (d ∷ ds) at x = (product d (λ j. x (at + j)) + sum_at ds (at + d) x) % 2

-- A monomial of a list is a product by places.
prod_snoc : (l : List ℕ) (y : ℕ) → prod (l ++ y ∷ []) ≡ prod l * y
unfolding prod
prod_snoc [] y = mul_comm y 1
prod_snoc (x ∷ l) y = ap (λ (p : ℕ). x * p) (prod_snoc l y) ∙ sym (mul_assoc x (prod l) y)

module _ (x : ℕ → ℕ) (n : ℕ) where
  prod_at : (at d : ℕ) → at + d ≤ n → prod (take d (drop at (tab x n))) ≡ product d (λ j. x (at + j))
  unfolding prod product
  prod_at at zero h = refl
  prod_at at (suc d) h =
      ap prod (take-suc (drop at (tab x n)) d 0 (omega (arith, length-drop at (tab x n), tab-length x n)))
      ∙ prod_snoc (take d (drop at (tab x n))) (get_or (drop at (tab x n)) d 0)
      ∙ ap₂ (λ (p y : ℕ). p * y) (prod_at at d (omega arith)) (get_or-drop at (tab x n) d 0 ∙ tab-at x n (at + d) (omega arith))

  sum_of-at : (ds : List ℕ) (at : ℕ) → at + total ds ≤ n → sum_of ds (drop at (tab x n)) ≡ sum_at ds at x
  unfolding sum_of sum_at total
  sum_of-at [] at h = refl
  sum_of-at (d ∷ ds) at h =
      ap₂ (λ (p s : ℕ). (p + s) % 2) (prod_at at d (omega arith)) (ap (sum_of ds) (drop-drop d at (tab x n)) ∙ sum_of-at ds (at + d) (omega arith))

-- Degrees end to end.
total-append : (ds es : List ℕ) → total (ds ++ es) ≡ total ds + total es
unfolding total
total-append [] es = omega arith
total-append (d ∷ ds) es = omega (arith, total-append ds es)

module _ (x : ℕ → ℕ) where
  sum_at-bit : (ds : List ℕ) (at : ℕ) → sum_at ds at x < 2
  unfolding sum_at
  sum_at-bit [] at = omega arith
  sum_at-bit (d ∷ ds) at = omega arith

  sum_at-append : (ds es : List ℕ) (at : ℕ) → sum_at (ds ++ es) at x ≡ (sum_at ds at x + sum_at es (at + total ds) x) % 2
  unfolding sum_at total
  sum_at-append [] es at = let e : at + 0 ≡ at = omega arith in rw e (omega (arith, sum_at-bit es at))
  sum_at-append (d ∷ ds) es at =
      ap (λ (s : ℕ). (product d (λ j. x (at + j)) + s) % 2) (sum_at-append ds es (at + d) ∙ ap (λ (p : ℕ). (sum_at ds (at + d) x + sum_at es p x) % 2) (add_assoc at d (total ds)))
      ∙ regroup (product d (λ j. x (at + j))) (sum_at ds (at + d) x) (sum_at es (at + (d + total ds)) x)

  sum_at_snoc : (ds : List ℕ) (d at : ℕ) → sum_at (ds ++ d ∷ []) at x ≡ (sum_at ds at x + product d (λ j. x (at + total ds + j))) % 2
  unfolding sum_at
  sum_at_snoc ds d at =
      sum_at-append ds (d ∷ []) at ∙ last (sum_at ds at x) (product d (λ j. x (at + total ds + j)))
    where
      last : (a b : ℕ) → (a + (b + 0) % 2) % 2 ≡ (a + b) % 2
      last a b = omega arith

-- m monomials of degree d
replicate_snoc : (m d : ℕ) → replicate (suc m) d ≡ replicate m d ++ d ∷ []
replicate_snoc m d = ap (λ (k : ℕ). replicate k d) (sym (add-one m)) ∙ sym (replicate-append-replicate m 1 d)

pub total-replicate : (m d : ℕ) → total (replicate m d) ≡ d * m
unfolding total
total-replicate zero d = omega arith
total-replicate (suc m) d = omega (arith, total-replicate m d, mul-suc d m)

sum_at-replicate : (x : ℕ → ℕ) (m d at : ℕ) → sum_at (replicate m d) at x ≡ sum m (λ i. product d (λ j. x (at + d * i + j)))
unfolding sum_at sum
sum_at-replicate x zero d at = refl
sum_at-replicate x (suc m) d at =
    ap (λ (l : List ℕ). sum_at l at x) (replicate_snoc m d)
    ∙ sum_at_snoc x (replicate m d) d at
    ∙ ap₂ (λ (s t : ℕ). (s + product d (λ j. x (at + t + j))) % 2) (sum_at-replicate x m d at) (total-replicate m d)

-- The triangle of degree k: its degrees use k · (k + 1) / 2 variables, and so many stand before the monomial of degree k + 1.
total-up_to : (k : ℕ) → k * suc k ≡ 2 * total (degrees_to k)
unfolding total
total-up_to zero = refl
total-up_to (suc k) =
    mul-suc (suc k) (suc k)
    ∙ omega (arith, total-up_to k, suc-mul k (suc k), total-append (degrees_to k) (suc k ∷ []))

pub triangle_total : (k : ℕ) → total (degrees_to k) ≡ triangle_size k
triangle_total k = omega (arith, total-up_to k, ap (λ (n : ℕ). k * n) (add-one k))

-- its longest monomial fits into it
pub triangle_holds : (k : ℕ) → k ≤ triangle_size k
unfolding total
triangle_holds k = omega (arith, longest k, triangle_total k)
  where
    longest : (k : ℕ) → k ≤ total (degrees_to k)
    longest zero = omega arith
    longest (suc k) = omega (arith, total-append (degrees_to k) (suc k ∷ []))

triangle_start_lem : (k : ℕ) → total (degrees_to k) ≡ triangle_start (suc k)
triangle_start_lem k =
    let e : suc k - 1 ≡ k = omega arith in
    omega (arith, total-up_to k, ap (λ (n : ℕ). suc k * n) e, mul_comm (suc k) k)

sum_at-up_to : (x : ℕ → ℕ) (k at : ℕ) → sum_at (degrees_to k) at x ≡ triangular k (λ i. x (at + i))
unfolding sum_at sum
sum_at-up_to x zero at = refl
sum_at-up_to x (suc k) at =
    sum_at_snoc x (degrees_to k) (suc k) at
    ∙ ap₂ (λ (s t : ℕ). (s + t) % 2) (sum_at-up_to x k at)
    (ap (product (suc k)) (pointwise (λ j. ap (λ (t : ℕ). x (at + t + j)) (triangle_start_lem k) ∙ ap x (add_assoc at (triangle_start (suc k)) j))))

-- nb triangles
copies_snoc : (n : ℕ) (s : List ℕ) → copies (suc n) s ≡ copies n s ++ s
copies_snoc zero s = append-nil s
copies_snoc (suc n) s = ap (λ (l : List ℕ). s ++ l) (copies_snoc n s) ∙ sym (append_assoc s (copies n s) s)

pub total-copies : (n : ℕ) (s : List ℕ) → total (copies n s) ≡ n * total s
unfolding total
total-copies zero s = omega arith
total-copies (suc n) s = omega (arith, total-append s (copies n s), total-copies n s, suc-mul n (total s))

sum_at-copies : (x : ℕ → ℕ) (nb k at : ℕ) → sum_at (copies nb (degrees_to k)) at x ≡ sum nb (λ t. triangular k (λ i. x (at + t * triangle_size k + i)))
unfolding sum_at sum
sum_at-copies x zero k at = refl
sum_at-copies x (suc nb) k at =
    let e : total (copies nb (degrees_to k)) ≡ nb * triangle_size k = total-copies nb (degrees_to k) ∙ ap (λ (t : ℕ). nb * t) (triangle_total k) in
    ap (λ (l : List ℕ). sum_at l at x) (copies_snoc nb (degrees_to k))
    ∙ sum_at-append x (copies nb (degrees_to k)) (degrees_to k) at
    ∙ ap₂ (λ (s t : ℕ). (s + t) % 2) (sum_at-copies x nb k at)
    (sum_at-up_to x k (at + total (copies nb (degrees_to k))) ∙ ap (λ (t : ℕ). triangular k (λ i. x (at + t + i))) e)

-- The linear and the quadratic part.
sum_at-ones : (x : ℕ → ℕ) (n : ℕ) → sum_at (replicate n 1) 0 x ≡ sum n x
unfolding product
sum_at-ones x n =
    sum_at-replicate x n 1 0
    ∙ ap (sum n) (pointwise (λ i. one-mul (x (0 + 1 * i + 0)) ∙ ap x (plain i)))
  where
    plain : (i : ℕ) → 0 + 1 * i + 0 ≡ i
    plain i = omega arith

sum_at_pairs : (x : ℕ → ℕ) (n at : ℕ) → sum_at (replicate n 2) at x ≡ sum n (λ i. x (at + 2 * i) * x (at + (2 * i + 1)))
unfolding product
sum_at_pairs x n at =
    sum_at-replicate x n 2 at
    ∙ ap (sum n) (pointwise (λ i. ap₂ (λ (a b : ℕ). a * b) (one-mul (x (at + 2 * i + 0)) ∙ ap x (first (at + 2 * i))) (ap x (add_assoc at (2 * i) 1))))
  where
    first : (n : ℕ) → n + 0 ≡ n
    first n = omega arith

-- how many variables stand before the pairs, and before the triangles
pub before_pairs : (n : ℕ) → total (replicate n 1) ≡ n
before_pairs n = omega (arith, total-replicate n 1)

pub before_triangles : (n pairs : ℕ) → total (replicate n 1 ++ replicate pairs 2) ≡ n + 2 * pairs
before_triangles n pairs = omega (arith, total-append (replicate n 1) (replicate pairs 2), before_pairs n, total-replicate pairs 2)

-- 000: FLIP with n1 variables in the linear part, twice as many as pairs in the quadratic, and nb triangles of degree k.
flip-at : (x : ℕ → ℕ) (n1 pairs nb k : ℕ) → sum_at (flip_degrees n1 pairs nb k) 0 x ≡ flip n1 (2 * pairs) nb k x
unfolding flip
flip-at x n1 pairs nb k =
    let a : List ℕ = replicate n1 1 in
    let b : List ℕ = replicate pairs 2 in
    let e : 0 + total a ≡ n1 = omega (arith, before_pairs n1) in
    let f : 0 + total (a ++ b) ≡ n1 + 2 * pairs = omega (arith, before_triangles n1 pairs) in
    let h : pairs ≡ 2 * pairs / 2 = omega arith in
    sum_at-append x (a ++ b) (copies nb (degrees_to k)) 0
    ∙ ap₂ (λ (s t : ℕ). (s + t) % 2)
    (sum_at-append x a b 0
    ∙ ap₂ (λ (s t : ℕ). (s + t) % 2) (sum_at-ones x n1)
    (ap (λ (t : ℕ). sum_at b t x) e ∙ sum_at_pairs x pairs n1 ∙ ap (λ (m : ℕ). sum m (λ i. x (n1 + 2 * i) * x (n1 + (2 * i + 1)))) h))
    (ap (λ (t : ℕ). sum_at (copies nb (degrees_to k)) t x) f ∙ sum_at-copies x nb k (n1 + 2 * pairs))
    ∙ mod-add-mod _ 2 _

total-flip : (n1 pairs nb k : ℕ) → total (flip_degrees n1 pairs nb k) ≡ n1 + 2 * pairs + nb * triangle_size k
total-flip n1 pairs nb k =
    total-append (replicate n1 1 ++ replicate pairs 2) (copies nb (degrees_to k))
    ∙ ap₂ (λ (s t : ℕ). s + t)
    (before_triangles n1 pairs)
    (total-copies nb (degrees_to k) ∙ ap (λ (t : ℕ). nb * t) (triangle_total k))

flip_is : (n1 pairs nb k : ℕ) (x : ℕ → ℕ) (n : ℕ) → n1 + 2 * pairs + nb * triangle_size k ≤ n
    → sum_of (flip_degrees n1 pairs nb k) (tab x n) ≡ flip n1 (2 * pairs) nb k x
flip_is n1 pairs nb k x n h =
    sum_of-at x n (flip_degrees n1 pairs nb k) 0 (omega (arith, total-flip n1 pairs nb k)) ∙ flip-at x n1 pairs nb k

-- 001: a direct sum of monomials by its vector, whose first number is of degree d.
unfoldable pub degrees_from : ℕ → List ℕ → List ℕ
degrees_from d [] = []
degrees_from d (m ∷ ms) = replicate m d ++ degrees_from (suc d) ms

direct_at : (x : ℕ → ℕ) (d : ℕ) (ms : List ℕ) (at : ℕ) → sum_at (degrees_from d ms) at x ≡ direct_sum d ms at x
unfolding degrees_from direct_sum sum_at
direct_at x d [] at = refl
direct_at x d (m ∷ ms) at =
    sum_at-append x (replicate m d) (degrees_from (suc d) ms) at
    ∙ ap₂ (λ (s t : ℕ). (s + t) % 2) (sum_at-replicate x m d at)
    (ap (λ (t : ℕ). sum_at (degrees_from (suc d) ms) (at + t) x) (total-replicate m d) ∙ direct_at x (suc d) ms (at + d * m))

direct_is : (d : ℕ) (ms : List ℕ) (x : ℕ → ℕ) (n : ℕ) → total (degrees_from d ms) ≤ n → sum_of (degrees_from d ms) (tab x n) ≡ direct_sum d ms 0 x
direct_is d ms x n h = sum_of-at x n (degrees_from d ms) 0 (omega arith) ∙ direct_at x d ms 0

-- The five published filters, each of a row's variables.
sum_alone : (ds xs : List ℕ) → (sum_of ds xs + 0) % 2 ≡ sum_of ds xs
sum_alone ds xs = omega (arith, sum_of-bit ds xs)

pub flip530 : (x : ℕ → ℕ) → filter_of 1 (tab x 530) ≡ flip 42 128 8 9 x
unfolding filter_of tail_of degrees_of
flip530 x = sum_alone (degrees_of 1) (tab x 530) ∙ flip_is 42 64 8 9 x 530 (omega arith)

pub flip1394 : (x : ℕ → ℕ) → filter_of 2 (tab x 1394) ≡ flip 82 224 8 16 x
unfolding filter_of tail_of degrees_of
flip1394 x = sum_alone (degrees_of 2) (tab x 1394) ∙ flip_is 82 112 8 16 x 1394 (omega arith)

degrees1216 : degrees_of 3 ≡ degrees_from 1 vector1216
unfolding degrees_of degrees_from
degrees1216 = refl

degrees1280 : degrees_of 4 ≡ degrees_from 1 vector1280
unfolding degrees_of degrees_from
degrees1280 = refl

total1216 : total (degrees_from 1 vector1216) ≡ 1216
unfolding total degrees_from
total1216 = refl

total1280 : total (degrees_from 1 vector1280) ≡ 1280
unfolding total degrees_from
total1280 = refl

pub filip1216 : (x : ℕ → ℕ) → filter_of 3 (tab x 1216) ≡ direct_sum 1 vector1216 0 x
unfolding filter_of tail_of
filip1216 x =
    sum_alone (degrees_of 3) (tab x 1216)
    ∙ ap (λ (ds : List ℕ). sum_of ds (tab x 1216)) degrees1216
    ∙ direct_is 1 vector1216 x 1216 (omega (arith, total1216))

pub filip1280 : (x : ℕ → ℕ) → filter_of 4 (tab x 1280) ≡ direct_sum 1 vector1280 0 x
unfolding filter_of tail_of
filip1280 x =
    sum_alone (degrees_of 4) (tab x 1280)
    ∙ ap (λ (ds : List ℕ). sum_of ds (tab x 1280)) degrees1280
    ∙ direct_is 1 vector1280 x 1280 (omega (arith, total1280))

-- 81 variables summed, and a threshold of the 63 others
others : (x : ℕ → ℕ) (m n : ℕ) → take n (drop m (tab x (m + n))) ≡ tab (λ i. x (m + i)) n
others x m n =
    ap (λ (l : List ℕ). take n (drop m l)) (tab_add x m n)
    ∙ ap (take n) (drop_at (tab x m) (tab (λ i. x (m + i)) n) m (tab-length x m))
    ∙ take_all n (tab (λ i. x (m + i)) n) (omega (arith, tab-length (λ i. x (m + i)) n))

pub filip144 : (x : ℕ → ℕ) → filter_of 5 (tab x 144) ≡ (sum 81 x + threshold 32 (tab (λ i. x (81 + i)) 63)) % 2
unfolding filter_of tail_of degrees_of
filip144 x =
    ap₂ (λ (s t : ℕ). (s + t) % 2)
    (sum_of-at x 144 (replicate 81 1) 0 (omega (arith, total-replicate 81 1)) ∙ sum_at-ones x 81)
    (ap (threshold 32) (others x 81 63))

pub filter-published : (inst : ℕ) → 1 ≤ inst → inst ≤ 5 → (x : ℕ → ℕ) → filter_of inst (tab x (row_bits inst)) ≡ published inst x
unfolding published sizes_of
filter-published zero h l x = absurd (omega arith)
filter-published (suc zero) h l x = flip530 x
filter-published (suc (suc zero)) h l x = flip1394 x
filter-published (suc (suc (suc zero))) h l x = filip1216 x
filter-published (suc (suc (suc (suc zero)))) h l x = filip1280 x
filter-published (suc (suc (suc (suc (suc zero))))) h l x = filip144 x
filter-published (suc (suc (suc (suc (suc (suc i)))))) h l x = absurd (omega arith)
