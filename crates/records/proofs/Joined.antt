-- Laws of lists joined end to end.
use Prim.Native.Nat.{ℕ, zero, suc, ◌+◌, ◌*◌, ◌<◌}
use mathlib.Core.Path.{◌≡◌}
use mathlib.Core.Logic.{⊎_elim}
use mathlib.Core.List.{List, [], ◌++◌, append_assoc, append-nil}
use native.Mathlib.Omega.{arith}
use native.Mathlib.Nat.{eq-or-lt_of_le}
use lib.ListN.{length, get_or, length-append, get_or-append}
use lib.Seq.{get_or-append-add}
use Rattle.records.specs.Bytes.{joined}

-- element i of list g, whatever stands after the joined lists
pub joined_at : (n g : ℕ) (f : ℕ → List ℕ) (z : List ℕ) (i : ℕ) → g < n → i < length (f g)
    → get_or (joined n f ++ z) (length (joined g f) + i) 0 ≡ get_or (f g) i 0
unfolding joined
joined_at zero g f z i h k = absurd (omega arith)
joined_at (suc n) g f z i h k =
    rw (append_assoc (joined n f) (f n) z)
    (⊎_elim
    (λ (m : g ≡ n). rw (m, get_or-append-add (joined n f) (f n ++ z) i 0) (get_or-append (f n) z 0 i (rw m at k)))
    (λ (l : g < n). joined_at n g f (f n ++ z) i l k)
    (eq-or-lt_of_le {n = g} {m = n} (omega arith)))

pub joined_in : (n g : ℕ) (f : ℕ → List ℕ) (i : ℕ) → g < n → i < length (f g) → get_or (joined n f) (length (joined g f) + i) 0 ≡ get_or (f g) i 0
joined_in n g f i h k = rw (append-nil (joined n f)) at (joined_at n g f [] i h k)

pub joined_length : (n k : ℕ) (f : ℕ → List ℕ) → ((i : ℕ) → length (f i) ≡ k) → length (joined n f) ≡ k * n
unfolding joined
joined_length zero k f h = omega arith
joined_length (suc n) k f h = rw (length-append (joined n f) (f n), h n, joined_length n k f h) (omega arith)
