-- Each gate of the cells uses earlier wires.
use mathlib.Core.Path.{◌≡◌, refl}
use mathlib.Core.List.{List, [], ◌∷◌}
use Prim.Native.Nat.{ℕ, zero, suc, ◌+◌, ◌-◌, ◌*◌, ◌≤◌, ◌<◌, max}
use native.Mathlib.Omega.{arith}
use lib.ListN.{length, length-append}
use Rattle.netlist.specs.Net.{GatesWired, Below}
use Rattle.netlist.proofs.Glued.{wired_append}
use Rattle.cells.specs.InnerLoop.{pos, down, tail, low_gates, sum_gates, levels, first_gates, first_wire, cells}
use Rattle.cells.proofs.Same.{length_low, length-tail, length-sum, length-first}
use Rattle.cells.proofs.Wiring.{below_more, pos_le, pos-down, cells_left, enough_next, first_enough, first_wire_in}

tail_wired : (m n x a s : ℕ) → x < n → a < n → s + m ≤ n → GatesWired n (tail x a s m)
tail_wired zero n x a s hx ha hs = ((ha, hx), tt)
tail_wired (suc m) n x a s hx ha hs = ((hx, omega arith, ha), tail_wired m (suc n) x s (s + 1) (omega arith) (omega arith) (omega arith))

low_wired : (l n x a : ℕ) → x < n → a < n → GatesWired n (low_gates l x a n)
low_wired zero n x a hx ha = tt
low_wired (suc l) n x a hx ha = (hx, ((omega arith, omega arith), tt))

sum_wired : (h n t s : ℕ) → t < n → s < n → GatesWired n (sum_gates h t s)
sum_wired zero n t s ht hs = ((ht, hs), tt)
sum_wired (suc h) n t s ht hs = tt

levels_wired : (xs : List ℕ) (l h a s m n sm : ℕ) → Below n xs → sm < n → (0 < length xs → a < n) → (0 < length xs → s + m ≤ n) → length xs ≤ m + l + max h 1
    → GatesWired n (levels xs l h a s m n sm)
levels_wired [] l h a s m n sm b hsm ha hs en = tt
levels_wired (x ∷ xs) l h a s m n sm b hsm ha hs en =
    let p1 = pos_le l in let p2 = pos_le h in let p3 = pos_le (down h) in
    let ha' = ha (omega arith) in let hs' = hs (omega arith) in
    let n1 = length_low l x a n in let n2 = length-tail m x a s in let n3 = length-sum h (n + 2 * pos l + m) sm in
    let G1 = low_gates l x a n in let G2 = tail x a s m in let G3 = sum_gates h (n + 2 * pos l + m) sm in
    let e : n + length G1 + length G2 + length G3 ≡ n + 2 * pos l + m + 2 - pos h = omega arith in
    wired_append n G1 _ (low_wired l n x a b.0 ha')
    (wired_append (n + length G1) G2 _ (tail_wired m (n + length G1) x a s (omega (arith, b.0)) (omega arith) (omega arith))
    (wired_append (n + length G1 + length G2) G3 _ (sum_wired h _ _ _ (omega arith) (omega arith))
    (rw e (levels_wired xs (down l) (down h) (n + pos l) (n + pos l + 1) (pos l + m + pos (down h) - 1) (n + 2 * pos l + m + 2 - pos h) (n + 2 * pos l + m + 1 - pos h)
    (below_more xs n _ (omega arith) b.1) (omega arith)
    (λ k. omega arith)
    (λ k. let y = cells_left (length xs) l h m en k in omega (arith, pos-down h))
    (enough_next (length xs) l h m en)))))

first_wired : (l n x : ℕ) → x < n → GatesWired n (first_gates l x)
first_wired zero n x h = tt
first_wired (suc l) n x h = (h, tt)

pub cells_wired : (x : ℕ) (xs : List ℕ) (l h n : ℕ) → x < n → Below n xs → suc (length xs) ≤ l + max h 1 → GatesWired n (cells (x ∷ xs) l h n)
cells_wired x xs l h n hx b f =
    let q = length-first l x in let p1 = pos_le l in let p2 = pos_le (down h) in
    let e : n + length (first_gates l x) ≡ n + pos l = omega arith in
    wired_append n (first_gates l x) _ (first_wired l n x hx)
    (rw e (levels_wired xs (down l) (down h) (first_wire l x n) x (pos l + pos (down h) - 1) (n + pos l) x
    (below_more xs n _ (omega arith) b) (omega arith) (λ k. first_wire_in l x n n hx refl) (λ k. omega arith) (first_enough (length xs) l h f)))

-- two inputs or more take a gate
pub length-cells : (x y : ℕ) (ys : List ℕ) (l h n : ℕ) → 0 < length (cells (x ∷ y ∷ ys) l h n)
length-cells x y ys l h n =
    simp (length-append, length-tail) (omega arith)
