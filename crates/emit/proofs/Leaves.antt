-- The parts of a level: how many gates each has, and what is stored where it is there and where it is not.
use Prim.Native.Nat.{ℕ, zero, suc, ◌+◌, ◌-◌, ◌*◌, ◌≤◌, ◌<◌}
use mathlib.Core.Path.{◌≡◌, refl, sym, ap, ◌∙◌}
use mathlib.Core.List.{List, [], ◌∷◌}
use native.Mathlib.Omega.{arith}
use lib.ListN.{length}
use lib.Seq.{sets}
use Rattle.netlist.specs.declared.gate.Gate.TheVariants.{Mux, And}
use Rattle.netlist.specs.Gates.{gate_words}
use Rattle.netlist.specs.Put.{put_gates}
use Rattle.cells.specs.InnerLoop.{pos, down, tail, low_gates, sum_gates, first_gates, first_wire}

pub pos_le : (n : ℕ) → pos n ≤ 1
pos_le zero = omega arith
pos_le (suc n) = omega arith

pub pos-some : (n : ℕ) → 0 < n → pos n ≡ 1
pos-some zero h = absurd (omega arith)
pos-some (suc n) h = refl

pub pos_none : (n : ℕ) → n ≤ 0 → pos n ≡ 0
pos_none zero h = refl
pos_none (suc n) h = absurd (omega arith)

pub down_less : (n : ℕ) → down n ≡ n - 1
down_less zero = omega arith
down_less (suc n) = omega arith

-- cell 0
pub low_length : (l x a n : ℕ) → length (low_gates l x a n) ≡ 2 * pos l
low_length zero x a n = refl
low_length (suc l) x a n = refl

pub low_kept : (out o₁ o₂ : List ℕ) (at l x a n : ℕ) → 0 < l → o₁ ≡ sets out at (2 ∷ x ∷ 0 ∷ 0 ∷ []) → o₂ ≡ sets o₁ (at + 4) (4 ∷ a ∷ n ∷ 0 ∷ [])
    → o₂ ≡ put_gates out at (low_gates l x a n)
unfolding put_gates
low_kept out o₁ o₂ at zero x a n h e f = absurd (omega arith)
low_kept out o₁ o₂ at (suc l) x a n h e f = f ∙ ap (λ (o : List ℕ). sets o (at + 4) (4 ∷ a ∷ n ∷ 0 ∷ [])) e

pub low_left : (out : List ℕ) (at l x a n : ℕ) → l ≤ 0 → out ≡ put_gates out at (low_gates l x a n)
unfolding put_gates
low_left out at zero x a n h = refl
low_left out at (suc l) x a n h = absurd (omega arith)

-- the cells that choose, and the last AND
pub tail-length : (m x a s : ℕ) → length (tail x a s m) ≡ m + 1
tail-length zero x a s = refl
tail-length (suc m) x a s = omega (arith, tail-length m x s (s + 1))

tail_more : (x a s m : ℕ) → 0 < m → tail x a s m ≡ Mux x s a ∷ tail x s (s + 1) (m - 1)
tail_more x a s zero h = absurd (omega arith)
tail_more x a s (suc m) h = let e : m ≡ suc m - 1 = omega arith in ap (λ (n : ℕ). Mux x s a ∷ tail x s (s + 1) n) e

tail_none : (x a s m : ℕ) → m ≤ 0 → tail x a s m ≡ And a x ∷ []
tail_none x a s zero h = refl
tail_none x a s (suc m) h = absurd (omega arith)

pub tail_start : (out : List ℕ) (at x a s m n : ℕ) → n ≡ m → put_gates out at (tail x a s n) ≡ put_gates out at (tail x a s m)
tail_start out at x a s m n h = ap (λ (k : ℕ). put_gates out at (tail x a s k)) h

pub tail-turn : (out o : List ℕ) (i x a s m n : ℕ) → n + 1 ≡ m → o ≡ sets out i (gate_words (Mux x s a)) → put_gates o (i + 4) (tail x s (s + 1) n) ≡ put_gates out i (tail x a s m)
unfolding put_gates
tail-turn out o i x a s m n h e =
    let g : n ≡ m - 1 = omega arith in
    (λ j. put_gates (e j) (i + 4) (tail x s (s + 1) (g j))) ∙ sym (ap (put_gates out i) (tail_more x a s m (omega arith)))

pub tail_end : (out o : List ℕ) (i x a s m : ℕ) → m ≤ 0 → o ≡ sets out i (gate_words (And a x)) → o ≡ put_gates out i (tail x a s m)
unfolding put_gates
tail_end out o i x a s m h e = e ∙ sym (ap (put_gates out i) (tail_none x a s m h))

-- the sum
pub sum-length : (h t s : ℕ) → length (sum_gates h t s) ≡ 1 - pos h
sum-length zero t s = refl
sum-length (suc h) t s = refl

pub sum_kept : (out o : List ℕ) (at h t s : ℕ) → h ≡ 0 → o ≡ sets out at (3 ∷ t ∷ s ∷ 0 ∷ []) → o ≡ put_gates out at (sum_gates h t s)
unfolding put_gates
sum_kept out o at zero t s h e = e
sum_kept out o at (suc n) t s h e = absurd (omega arith)

pub sum_left : (out : List ℕ) (at h t s : ℕ) → (h ≡ 0 → ⊥) → out ≡ put_gates out at (sum_gates h t s)
unfolding put_gates
sum_left out at zero t s h = absurd (h refl)
sum_left out at (suc n) t s h = refl

-- level 1
pub first-length : (l x : ℕ) → length (first_gates l x) ≡ pos l
first-length zero x = refl
first-length (suc l) x = refl

pub first_kept : (out o : List ℕ) (at l x : ℕ) → 0 < l → o ≡ sets out at (2 ∷ x ∷ 0 ∷ 0 ∷ []) → o ≡ put_gates out at (first_gates l x)
unfolding put_gates
first_kept out o at zero x h e = absurd (omega arith)
first_kept out o at (suc l) x h e = e

pub first-left : (out : List ℕ) (at l x : ℕ) → l ≤ 0 → out ≡ put_gates out at (first_gates l x)
unfolding put_gates
first-left out at zero x h = refl
first-left out at (suc l) x h = absurd (omega arith)

pub wire_not : (l x next : ℕ) → 0 < l → next ≡ first_wire l x next
wire_not zero x next h = absurd (omega arith)
wire_not (suc l) x next h = refl

pub wire_input : (l x next : ℕ) → l ≤ 0 → x ≡ first_wire l x next
wire_input zero x next h = refl
wire_input (suc l) x next h = absurd (omega arith)
