-- Laws of rows and their variables.
use Prim.Native.Nat.{ℕ, ◌+◌, ◌-◌, ◌*◌, ◌%◌, ◌<◌, ◌≤◌}
use mathlib.Core.Path.{◌≡◌, refl, ap, ap₂, sym, ◌∙◌}
use mathlib.Core.List.{List, [], ◌∷◌, ◌++◌, append_assoc, append-nil}
use mathlib.Core.Logic.{⊎_elim}
use native.Mathlib.Omega.{arith}
use native.Mathlib.Nat.{add-mul, one-mul, mul-le-mul_right, eq-or-lt_of_le}
use native.Mathlib.Numerals.{add-one}
use lib.Bits.{bit_xor, xor_add_and}
use lib.ListN.{length, get_or, set, take, drop, length-take, length-drop}
use lib.Seq.{get_or-set_same, get_or-set_other, get_or-take, get_or-drop, take-suc-set}
use Rattle.instance.specs.Table.{row_bits}
use Rattle.filter.specs.Filter.{var, tab}
use Rattle.filter.specs.Instances.{filter_of, row_bit}
use Rattle.filter.proofs.Tab.{tab-same, tab_add}
use Rattle.cipher.specs.Rows.{stream_bit}

-- the low bit of the code's word is the variable, where that of k is the key's
pub low_bit : (bits row w : List ℕ) (j k : ℕ) → k % 2 ≡ get_or bits (get_or row j 0) 0 → bit_xor k (get_or w j 0) % 2 ≡ var bits row w j
unfolding var
low_bit bits row w j k e = omega (arith, xor_add_and k (get_or w j 0))

-- one more place whose low bit is f's value
pub filled_more : (f : ℕ → ℕ) (l : List ℕ) (t v : ℕ) → t < length l → v % 2 ≡ f t → ((s : ℕ) → s < t → get_or l s 0 % 2 ≡ f s)
    → (s : ℕ) → s < t + 1 → get_or (set l t v) s 0 % 2 ≡ f s
filled_more f l t v h e g s k =
    ⊎_elim
    (λ (q : s ≡ t). ap (λ (n : ℕ). get_or (set l t v) n 0 % 2) q ∙ ap (λ (y : ℕ). y % 2) (get_or-set_same l t v 0 h) ∙ e ∙ ap f (sym q))
    (λ (q : s < t). ap (λ (y : ℕ). y % 2) (get_or-set_other l t s v 0 (λ (z : s ≡ t). omega arith)) ∙ g s q)
    (eq-or-lt_of_le {n = s} {m = t} (omega arith))

-- no value of a table yet, and one more, written behind a front
pub written_none : (f : ℕ → ℕ) (x : List ℕ) (i : ℕ) → take (i + 0) x ≡ take i x ++ tab f 0
unfolding tab
written_none f x i = let e : i + 0 ≡ i = omega arith in ap (λ (n : ℕ). take n x) e ∙ sym (append-nil (take i x))

pub written-more : (f : ℕ → ℕ) (front x : List ℕ) (n t v : ℕ) → n < length x → v ≡ f t → take n x ≡ front ++ tab f t
    → take (n + 1) (set x n v) ≡ front ++ tab f (t + 1)
unfolding tab
written-more f front x n t v h e w =
    rw (add-one n, add-one t)
    (take-suc-set x n v h ∙ ap₂ (λ (l : List ℕ) (y : ℕ). l ++ y ∷ []) w e ∙ append_assoc front (tab f t) (f t ∷ []))

-- eight more values of a table: the low bits of eight words
pub eight_more : (f : ℕ → ℕ) (some x y : List ℕ) (i : ℕ) → ((t : ℕ) → t < 8 → get_or some t 0 % 2 ≡ f (i + t)) → take i x ≡ tab f i
    → take (i + 8) y ≡ take i x ++ tab (λ t. get_or some t 0 % 2) 8 → take (i + 8) y ≡ tab f (i + 8)
eight_more f some x y i g v w =
    w ∙ ap₂ (λ (a b : List ℕ). a ++ b) v (tab-same (λ t. get_or some t 0 % 2) (λ t. f (i + t)) 8 g) ∙ sym (tab_add f i 8)

-- where the next row begins; row i of m rows of n is there
pub row_next : (i n : ℕ) → (i + 1) * n ≡ i * n + n
row_next i n = add-mul i 1 n ∙ ap (λ (x : ℕ). i * n + x) (one-mul n)

pub row_in : (i m n : ℕ) → i < m → i * n + n ≤ m * n
row_in i m n h =
    let l : i + 1 ≤ m = omega arith in
    rw (← row_next i n) (mul-le-mul_right n l)

-- a part of n places shows what stands there
pub part_at : (l : List ℕ) (at n end j : ℕ) → end ≡ at + n → j < n → get_or (take (end - at) (drop at l)) j 0 ≡ get_or (drop at l) j 0
part_at l at n end j e h = let m : end - at ≡ n = omega arith in rw m (get_or-take n (drop at l) j 0 h)

-- and no more than that
pub part_below : (l : List ℕ) (at n end j m : ℕ) → end ≡ at + n → j < length (take (end - at) (drop at l)) → (j < n → get_or l (at + j) 0 < m)
    → get_or (take (end - at) (drop at l)) j 0 < m
part_below l at n end j m e h f =
    let k : j < n = omega (arith, length-take (end - at) (drop at l)) in
    rw (part_at l at n end j e k, get_or-drop at l j 0) (f k)

-- parts of two lists at the same places
pub parts-length : (k l : List ℕ) (at n end : ℕ) → end ≡ at + n → end ≤ length k → end ≤ length l
    → length (take (end - at) (drop at k)) ≡ length (take (end - at) (drop at l))
parts-length k l at n end e g h =
    omega (arith, length-take (end - at) (drop at k), length-drop at k, length-take (end - at) (drop at l), length-drop at l)

-- a keystream bit over row i of the lists
pub bit_is : (inst : ℕ) (bits idx wh : List ℕ) (i n at end : ℕ) → n ≡ row_bits inst → at ≡ i * n → end ≡ at + n
    → filter_of inst (tab (var bits (take (end - at) (drop at idx)) (take (end - at) (drop at wh))) n) ≡ stream_bit inst bits idx wh i
unfolding stream_bit row_bit var
bit_is inst bits idx wh i n at end e a p =
    let f : ℕ → ℕ = var bits (take (end - at) (drop at idx)) (take (end - at) (drop at wh)) in
    let g : ℕ → ℕ = var bits (drop at idx) (drop at wh) in
    let same : (j : ℕ) → j < n → f j ≡ g j = λ j h. rw (part_at idx at n end j p h, part_at wh at n end j p h) refl in
    ap (filter_of inst) (tab-same f g n same) ∙ rw (a, e) refl

-- place j of row i is one of the m rows' places
pub within : (i m n j : ℕ) {k : ℕ} → n ≡ k → i < m → j < n → i * n + j < m * k
within i m n j e h l = rw (← e) (omega (arith, row_in i m n h))
