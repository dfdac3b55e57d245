-- Products and sums of monomials: values, over any way of splitting; multiplications; gates; depth.
use Prim.Native.Nat.{ℕ, zero, suc, ◌+◌, ◌-◌, ◌*◌, ◌%◌, ◌≤◌, max}
use mathlib.Core.Bool.{Bool, true, false}
use mathlib.Core.Path.{◌≡◌, refl, sym, ap, ap₂, ◌∙◌}
use mathlib.Core.List.{List, [], ◌∷◌, ◌++◌, map}
use native.Mathlib.Omega.{arith}
use native.Mathlib.Nat.{mul_assoc, one-mul}
use borrow.Author.Tests.{ltb-true, leb-true}
use lib.Dec.{leb, ltb}
use lib.ListN.{length, take, drop, length-take, length-drop, take-append-drop}
use Rattle.netlist.specs.Net.{at, val_alg}
use Rattle.filter.specs.Filter.{prod, sum_of}
use Rattle.filter.proofs.Sums.{bit_times}
use Rattle.filter.proofs.Published.{total}
use Rattle.wiring.specs.Exp.{Exp, sum, Split, one, two, factors, chain, product, add_all, monomials}
use Rattle.wiring.specs.Inner.{both, fits}
use Rattle.wiring.proofs.Tally.{muls, deep, size, height}
use Rattle.wiring.proofs.Exps.{All, Over, carried}

-- a way to split a product of each number of wires
abbrev pub Splits : (ℕ → Split) → Type 0
Splits S = (k : ℕ) → 1 ≤ k → factors (S k) ≡ k

pub chain_splits : Splits chain
unfolding chain factors
chain_splits zero h = absurd (omega arith)
chain_splits (suc zero) h = refl
chain_splits (suc (suc k)) h = omega (arith, chain_splits (suc k) (omega arith))

pub chain-height : (k : ℕ) → height (chain (suc k)) ≡ k
unfolding chain height
chain-height zero = refl
chain-height (suc k) = ap suc (omega (arith, chain-height k))

pub all_take : {X : Type 0} (P : X → Type 0) (n : ℕ) (xs : List X) → All P xs → All P (take n xs)
all_take P zero xs a = tt
all_take P (suc n) [] a = tt
all_take P (suc n) (x ∷ xs) a = (a.0, all_take P n xs a.1)

pub all_drop : {X : Type 0} (P : X → Type 0) (n : ℕ) (xs : List X) → All P xs → All P (drop n xs)
all_drop P zero xs a = a
all_drop P (suc n) [] a = tt
all_drop P (suc n) (x ∷ xs) a = all_drop P n xs a.1

map-take : {X Y : Type 0} (f : X → Y) (n : ℕ) (xs : List X) → map f (take n xs) ≡ take n (map f xs)
map-take f zero xs = refl
map-take f (suc n) [] = refl
map-take f (suc n) (x ∷ xs) = ap (λ z. f x ∷ z) (map-take f n xs)

pub map-drop : {X Y : Type 0} (f : X → Y) (n : ℕ) (xs : List X) → map f (drop n xs) ≡ drop n (map f xs)
map-drop f zero xs = refl
map-drop f (suc n) [] = refl
map-drop f (suc n) (x ∷ xs) = map-drop f n xs

-- ---- bits
prod-append : (xs ys : List ℕ) → prod (xs ++ ys) ≡ prod xs * prod ys
unfolding prod
prod-append [] ys = sym (one-mul (prod ys))
prod-append (x ∷ xs) ys = ap (λ (z : ℕ). x * z) (prod-append xs ys) ∙ sym (mul_assoc x (prod xs) (prod ys))

prod-one : (x : ℕ) → prod (x ∷ []) ≡ x
unfolding prod
prod-one x = omega arith

prod-bit : (xs : List ℕ) → All (λ x. x ≤ 1) xs → prod xs ≤ 1
unfolding prod
prod-bit [] a = omega arith
prod-bit (x ∷ xs) a = bit_times x (prod xs) a.0 (prod-bit xs a.1)

and_times : (a b : ℕ) → a ≤ 1 → val_alg.and a b ≡ a * b
and_times zero b h = omega arith
and_times (suc zero) b h = omega arith
and_times (suc (suc a)) b h = absurd (omega arith)

pub xor_mod : (a b : ℕ) → a ≤ 1 → b ≤ 1 → val_alg.xor a b ≡ (a + b) % 2
xor_mod zero zero h k = refl
xor_mod zero (suc zero) h k = refl
xor_mod (suc zero) zero h k = refl
xor_mod (suc zero) (suc zero) h k = refl
xor_mod zero (suc (suc b)) h k = absurd (omega arith)
xor_mod (suc zero) (suc (suc b)) h k = absurd (omega arith)
xor_mod (suc (suc a)) b h k = absurd (omega arith)

pub sum_two : (v : List ℕ) (a b : Exp) (x y : ℕ) → carried val_alg v a ≡ x → carried val_alg v b ≡ y → x ≤ 1 → y ≤ 1 → carried val_alg v (sum a b) ≡ (x + y) % 2
unfolding carried
sum_two v a b x y e g h k = ap₂ val_alg.xor e g ∙ xor_mod x y h k

-- ---- one product
length_front : (n m : ℕ) (ws : List ℕ) → length ws ≡ n + m → (length (take n ws) ≡ n) × (length (drop n ws) ≡ m)
length_front n m ws e = (omega (arith, length-take n ws), omega (arith, length-drop n ws))

pub product-over : (P : ℕ → Type 0) (t : Split) (ws : List ℕ) → length ws ≡ factors t → All P ws → Over P (product t ws)
unfolding product factors
product-over P one [] e a = absurd (omega arith)
product-over P one (w ∷ ws) e a = a.0
product-over P (two s t) ws e a =
    let l = length_front (factors s) (factors t) ws e in
    (product-over P s (take (factors s) ws) l.0 (all_take P (factors s) ws a), product-over P t (drop (factors s) ws) l.1 (all_drop P (factors s) ws a))

module _ (v : List ℕ) where
  abbrev pub Bit : ℕ → Type 0
  Bit w = at val_alg v w ≤ 1

  abbrev pub on : List ℕ → List ℕ
  on ws = map (at val_alg v) ws

  pub all-on : (ws : List ℕ) → All Bit ws → All (λ x. x ≤ 1) (on ws)
  all-on [] a = tt
  all-on (w ∷ ws) a = (a.0, all-on ws a.1)

  pub product_value : (t : Split) (ws : List ℕ) → length ws ≡ factors t → All Bit ws → carried val_alg v (product t ws) ≡ prod (on ws)
  unfolding product factors carried
  product_value one [] e a = absurd (omega arith)
  product_value one (w ∷ []) e a = sym (prod-one (at val_alg v w))
  product_value one (w ∷ x ∷ ws) e a = absurd (omega arith)
  product_value (two s t) ws e a =
      let n = factors s in
      let l = length_front n (factors t) ws e in
      ap₂ val_alg.and
      (product_value s (take n ws) l.0 (all_take Bit n ws a) ∙ ap prod (map-take (at val_alg v) n ws))
      (product_value t (drop n ws) l.1 (all_drop Bit n ws a) ∙ ap prod (map-drop (at val_alg v) n ws))
      ∙ and_times _ _ (prod-bit (take n (on ws)) (all_take (λ x. x ≤ 1) n (on ws) (all-on ws a)))
      ∙ sym (prod-append (take n (on ws)) (drop n (on ws)))
      ∙ ap prod (take-append-drop n (on ws))

pub product-muls : (t : Split) (ws : List ℕ) → muls (product t ws) + 1 ≡ factors t
unfolding product factors muls
product-muls one ws = refl
product-muls (two s t) ws = omega (arith, product-muls s (take (factors s) ws), product-muls t (drop (factors s) ws))

pub product-size : (t : Split) (ws : List ℕ) → size (product t ws) + 1 ≡ factors t
unfolding product factors size
product-size one ws = refl
product-size (two s t) ws = omega (arith, product-size s (take (factors s) ws), product-size t (drop (factors s) ws))

pub product-deep : (t : Split) (ws : List ℕ) → deep (product t ws) ≡ height t
unfolding product height deep
product-deep one ws = refl
product-deep (two s t) ws = ap suc (ap₂ max (product-deep s (take (factors s) ws)) (product-deep t (drop (factors s) ws)))

-- ---- sums of products
both_true : (a b : Bool) → both a b ≡ true → (a ≡ true) × (b ≡ true)
both_true true b h = (refl, h)
both_true false b h = (h, absurd (let z : ◌≡◌ {A = ℕ} 0 1 = cc in omega arith))

pub record Fits (d : ℕ) (ds : List ℕ) (n : ℕ) : Type 0 where
  pub some : 1 ≤ d
  pub most : d ≤ n
  pub rest : fits ds (n - d) ≡ true

pub fits_cons : (d : ℕ) (ds : List ℕ) (n : ℕ) → fits (d ∷ ds) n ≡ true → Fits d ds n
unfolding fits
fits_cons d ds n h =
    let a = both_true (ltb 0 d) _ h in
    let b = both_true (leb d n) _ a.1 in
    record { some = ltb-true 0 d a.0; most = leb-true d n b.0; rest = b.1 }

unfoldable pub ands : List ℕ → ℕ
ands [] = 0
ands (d ∷ ds) = (d - 1) + ands ds

unfoldable pub tallest : (ℕ → Split) → List ℕ → ℕ
tallest S [] = 0
tallest S (d ∷ ds) = max (height (S d)) (tallest S ds)

module _ (S : ℕ → Split) (K : Splits S) where
  -- the next monomial's wires
  part_length : (d : ℕ) (ds ws : List ℕ) → Fits d ds (length ws) → length (take d ws) ≡ factors (S d)
  part_length d ds ws f = omega (arith, length-take d ws, K d f.some, f.most)

  rest_fits : (d : ℕ) (ds ws : List ℕ) → Fits d ds (length ws) → fits ds (length (drop d ws)) ≡ true
  rest_fits d ds ws f = ap (fits ds) (length-drop d ws) ∙ f.rest

  add_over : (P : ℕ → Type 0) (ds ws : List ℕ) (acc : Exp) → fits ds (length ws) ≡ true → All P ws → Over P acc → Over P (add_all S acc ds ws)
  unfolding add_all
  add_over P [] ws acc h a o = o
  add_over P (d ∷ ds) ws acc h a o =
      let f = fits_cons d ds (length ws) h in
      add_over P ds (drop d ws) _ (rest_fits d ds ws f) (all_drop P d ws a) (o, product-over P (S d) (take d ws) (part_length d ds ws f) (all_take P d ws a))

  add_value : (v : List ℕ) (ds ws : List ℕ) (acc : Exp) → fits ds (length ws) ≡ true → All (Bit v) ws → carried val_alg v acc ≤ 1
      → carried val_alg v (add_all S acc ds ws) ≡ (carried val_alg v acc + sum_of ds (on v ws)) % 2
  unfolding add_all sum_of
  add_value v [] ws acc h a o = omega arith
  add_value v (d ∷ ds) ws acc h a o =
      let f = fits_cons d ds (length ws) h in
      let m = product (S d) (take d ws) in
      let x = carried val_alg v acc in
      let p = prod (take d (on v ws)) in
      let pm : carried val_alg v m ≡ p = product_value v (S d) (take d ws) (part_length d ds ws f) (all_take (Bit v) d ws a) ∙ ap prod (map-take (at val_alg v) d ws) in
      let pb = prod-bit (take d (on v ws)) (all_take (λ x. x ≤ 1) d (on v ws) (all-on v ws a)) in
      let q : carried val_alg v (sum acc m) ≡ (x + p) % 2 = sum_two v acc m x p refl pm o pb in
      let r = add_value v ds (drop d ws) (sum acc m) (rest_fits d ds ws f) (all_drop (Bit v) d ws a) (omega arith) in
      let s : sum_of ds (on v (drop d ws)) ≡ sum_of ds (drop d (on v ws)) = ap (sum_of ds) (map-drop (at val_alg v) d ws) in
      r ∙ omega arith

  add_muls : (ds ws : List ℕ) (acc : Exp) → fits ds (length ws) ≡ true → muls (add_all S acc ds ws) ≡ muls acc + ands ds
  unfolding add_all ands muls
  add_muls [] ws acc h = omega arith
  add_muls (d ∷ ds) ws acc h =
      let f = fits_cons d ds (length ws) h in
      let r = add_muls ds (drop d ws) (sum acc (product (S d) (take d ws))) (rest_fits d ds ws f) in
      omega (arith, product-muls (S d) (take d ws), K d f.some)

  add_size : (ds ws : List ℕ) (acc : Exp) → fits ds (length ws) ≡ true → size (add_all S acc ds ws) ≡ size acc + total ds
  unfolding add_all total size
  add_size [] ws acc h = omega arith
  add_size (d ∷ ds) ws acc h =
      let f = fits_cons d ds (length ws) h in
      let r = add_size ds (drop d ws) (sum acc (product (S d) (take d ws))) (rest_fits d ds ws f) in
      omega (arith, product-size (S d) (take d ws), K d f.some)

  add_deep : (ds ws : List ℕ) (acc : Exp) → deep (add_all S acc ds ws) ≡ max (deep acc) (tallest S ds)
  unfolding add_all tallest deep
  add_deep [] ws acc = omega arith
  add_deep (d ∷ ds) ws acc =
      omega (arith, add_deep ds (drop d ws) (sum acc (product (S d) (take d ws))), product-deep (S d) (take d ws))

  -- the sum of monomials of degrees d, ds
  module _ (d : ℕ) (ds ws : List ℕ) (h : fits (d ∷ ds) (length ws) ≡ true) where
    pub monomials-over : (P : ℕ → Type 0) → All P ws → Over P (monomials S (d ∷ ds) ws)
    unfolding monomials
    monomials-over P a =
        let f = fits_cons d ds (length ws) h in
        add_over P ds (drop d ws) _ (rest_fits d ds ws f) (all_drop P d ws a) (product-over P (S d) (take d ws) (part_length d ds ws f) (all_take P d ws a))

    pub monomials_value : (v : List ℕ) → All (Bit v) ws → carried val_alg v (monomials S (d ∷ ds) ws) ≡ sum_of (d ∷ ds) (on v ws)
    unfolding monomials sum_of
    monomials_value v a =
        let f = fits_cons d ds (length ws) h in
        let m = product (S d) (take d ws) in
        let p = prod (take d (on v ws)) in
        let pm : carried val_alg v m ≡ p = product_value v (S d) (take d ws) (part_length d ds ws f) (all_take (Bit v) d ws a) ∙ ap prod (map-take (at val_alg v) d ws) in
        let pb = prod-bit (take d (on v ws)) (all_take (λ x. x ≤ 1) d (on v ws) (all-on v ws a)) in
        let s : sum_of ds (on v (drop d ws)) ≡ sum_of ds (drop d (on v ws)) = ap (sum_of ds) (map-drop (at val_alg v) d ws) in
        add_value v ds (drop d ws) m (rest_fits d ds ws f) (all_drop (Bit v) d ws a) (omega (arith, pb)) ∙ omega arith

    pub monomials-muls : muls (monomials S (d ∷ ds) ws) ≡ ands (d ∷ ds)
    unfolding monomials ands
    monomials-muls =
        let f = fits_cons d ds (length ws) h in
        omega (arith, add_muls ds (drop d ws) (product (S d) (take d ws)) (rest_fits d ds ws f), product-muls (S d) (take d ws), K d f.some)

    pub monomials-size : size (monomials S (d ∷ ds) ws) + 1 ≡ total (d ∷ ds)
    unfolding monomials total
    monomials-size =
        let f = fits_cons d ds (length ws) h in
        omega (arith, add_size ds (drop d ws) (product (S d) (take d ws)) (rest_fits d ds ws f), product-size (S d) (take d ws), K d f.some)

    pub monomials-deep : deep (monomials S (d ∷ ds) ws) ≡ tallest S (d ∷ ds)
    unfolding monomials tallest
    monomials-deep = omega (arith, add_deep ds (drop d ws) (product (S d) (take d ws)), product-deep (S d) (take d ws))
