-- The value read off a gate's number is the gate's value.
use Prim.Native.Nat.{ℕ, zero, suc, ◌+◌, ◌*◌, ◌/◌, ◌%◌, ◌^◌, ◌≤◌}
use mathlib.Core.Path.{◌≡◌, refl, ◌∙◌}
use mathlib.Core.List.{List}
use native.Mathlib.Omega.{arith}
use lib.ListN.{get_or}
use lib.Dec.{eqb}
use Rattle.answer.specs.Choose.{choose}
use Rattle.netlist.specs.Gates.{taken_of, gate_of}
use Rattle.netlist.specs.Net.{EachOperand, step, val_alg}
use Rattle.evaluate.specs.Inner.{truth_at}

-- what holds of each of eight triples holds of all bits
by_bits : (P : ℕ → ℕ → ℕ → Type 0) → P 0 0 0 → P 1 0 0 → P 0 1 0 → P 1 1 0 → P 0 0 1 → P 1 0 1 → P 0 1 1 → P 1 1 1
    → (x y z : ℕ) → x ≤ 1 → y ≤ 1 → z ≤ 1 → P x y z
by_bits P a b c d e f g h zero zero zero i j k = a
by_bits P a b c d e f g h (suc zero) zero zero i j k = b
by_bits P a b c d e f g h zero (suc zero) zero i j k = c
by_bits P a b c d e f g h (suc zero) (suc zero) zero i j k = d
by_bits P a b c d e f g h zero zero (suc zero) i j k = e
by_bits P a b c d e f g h (suc zero) zero (suc zero) i j k = f
by_bits P a b c d e f g h zero (suc zero) (suc zero) i j k = g
by_bits P a b c d e f g h (suc zero) (suc zero) (suc zero) i j k = h
by_bits P a b c d e f g h (suc (suc x)) y z i j k = absurd (omega arith)
by_bits P a b c d e f g h zero (suc (suc y)) z i j k = absurd (omega arith)
by_bits P a b c d e f g h (suc zero) (suc (suc y)) z i j k = absurd (omega arith)
by_bits P a b c d e f g h zero zero (suc (suc z)) i j k = absurd (omega arith)
by_bits P a b c d e f g h (suc zero) zero (suc (suc z)) i j k = absurd (omega arith)
by_bits P a b c d e f g h zero (suc zero) (suc (suc z)) i j k = absurd (omega arith)
by_bits P a b c d e f g h (suc zero) (suc zero) (suc (suc z)) i j k = absurd (omega arith)

-- a number and a function of three bits that agree on all of them
reads : (n : ℕ) (f : ℕ → ℕ → ℕ → ℕ) (x y z : ℕ)
    → n / 2 ^ 0 % 2 ≡ f 0 0 0 → n / 2 ^ 1 % 2 ≡ f 1 0 0 → n / 2 ^ 2 % 2 ≡ f 0 1 0 → n / 2 ^ 3 % 2 ≡ f 1 1 0
    → n / 2 ^ 4 % 2 ≡ f 0 0 1 → n / 2 ^ 5 % 2 ≡ f 1 0 1 → n / 2 ^ 6 % 2 ≡ f 0 1 1 → n / 2 ^ 7 % 2 ≡ f 1 1 1
    → n / 2 ^ (x % 2 + 2 * (y % 2) + 4 * (z % 2)) % 2 ≡ f (x % 2) (y % 2) (z % 2)
reads n f x y z a b c d e g h i =
    by_bits (λ x y z. n / 2 ^ (x + 2 * y + 4 * z) % 2 ≡ f x y z) a b c d e g h i (x % 2) (y % 2) (z % 2) (omega arith) (omega arith) (omega arith)

bit : (x : ℕ) → x ≤ 1 → x % 2 ≡ x
bit x h = omega arith

-- the words k, a, b, c of a gate whose used operands carry bits in w
pub truth_right : (k a b c : ℕ) (w : List ℕ) → EachOperand (λ i. get_or w i 0 ≤ 1) (gate_of k a b c)
    → truth_at (gate_of k a b c) (get_or w a 0) (get_or w b 0) (get_or w c 0) ≡ step val_alg w (gate_of k a b c)
unfolding truth_at gate_of taken_of
truth_right zero a b c w u = reads 0 (λ x y z. 0) _ _ _ refl refl refl refl refl refl refl refl
truth_right (suc zero) a b c w u = reads 255 (λ x y z. 1) _ _ _ refl refl refl refl refl refl refl refl
truth_right (suc (suc zero)) a b c w u =
    reads 85 (λ x y z. choose (eqb x 0) 1 0) _ _ _ refl refl refl refl refl refl refl refl ∙ rw (bit (get_or w a 0) u)
truth_right (suc (suc (suc zero))) a b c w u =
    reads 102 (λ x y z. choose (eqb x y) 0 1) _ _ _ refl refl refl refl refl refl refl refl
    ∙ rw (bit (get_or w a 0) u.0, bit (get_or w b 0) u.1)
truth_right (suc (suc (suc (suc zero)))) a b c w u =
    reads 136 (λ x y z. choose (eqb x 0) 0 y) _ _ _ refl refl refl refl refl refl refl refl
    ∙ rw (bit (get_or w a 0) u.0, bit (get_or w b 0) u.1)
truth_right (suc (suc (suc (suc (suc zero))))) a b c w u =
    reads 228 (λ x y z. choose (eqb x 0) y z) _ _ _ refl refl refl refl refl refl refl refl
    ∙ rw (bit (get_or w a 0) u.0, bit (get_or w b 0) u.1, bit (get_or w c 0) u.2)
truth_right (suc (suc (suc (suc (suc (suc k)))))) a b c w u = reads 0 (λ x y z. 0) _ _ _ refl refl refl refl refl refl refl refl
