-- Laws of lists joined end to end, of parts of a list, and of words in bytes.
use Prim.Native.Nat.{ℕ, zero, suc, ◌+◌, ◌*◌, ◌/◌, ◌%◌, ◌<◌, ◌≤◌}
use mathlib.Core.Path.{◌≡◌, refl, sym}
use mathlib.Core.Logic.{⊎_elim}
use mathlib.Core.List.{List, [], ◌∷◌, ◌++◌, append_assoc, append-nil}
use native.Mathlib.Omega.{arith}
use native.Mathlib.Nat.{eq-or-lt_of_le, add-zero, add-suc, add_assoc, zero-add}
use lib.ListN.{length, get_or, take, length-append}
use lib.Seq.{take-suc, take-length}
use Rattle.records.specs.Bytes.{word_at, joined}
use Rattle.file.specs.Bytes.{little, Bytes}

-- each ends before the whole does
pub joined_most : (n g : ℕ) (f : ℕ → List ℕ) → g < n → length (joined g f) + length (f g) ≤ length (joined n f)
unfolding joined
joined_most zero g f h = absurd (omega arith)
joined_most (suc n) g f h =
    rw (length-append (joined n f) (f n))
    (⊎_elim
    (λ (m : g ≡ n). rw m (omega arith))
    (λ (l : g < n). omega (arith, joined_most n g f l))
    (eq-or-lt_of_le {n = g} {m = n} (omega arith)))

-- k elements of a list from p on, 0 past its end
unfoldable pub part : List ℕ → ℕ → ℕ → List ℕ
part s p zero = []
part s p (suc k) = part s p k ++ get_or s (p + k) 0 ∷ []

pub part-append : (s : List ℕ) (p a b : ℕ) → part s p a ++ part s (p + a) b ≡ part s p (a + b)
unfolding part
part-append s p a zero = rw add-zero (append-nil (part s p a))
part-append s p a (suc b) =
    rw (add-suc a b, ← append_assoc (part s p a) (part s (p + a) b), part-append s p a b, add_assoc p a b)

part-take : (s : List ℕ) (k : ℕ) → k ≤ length s → part s 0 k ≡ take k s
unfolding part
part-take s zero h = refl
part-take s (suc k) h = rw (zero-add, part-take s k (omega arith)) (sym (take-suc s k 0 (omega arith)))

pub part-all : (s : List ℕ) (n : ℕ) → n ≡ length s → part s 0 n ≡ s
part-all s n e = rw (e, part-take s (length s) (omega arith)) (take-length s)

-- parts end to end are a part
pub joined-part : (s : List ℕ) (b n : ℕ) (f : ℕ → List ℕ) (st size : ℕ → ℕ) → ((i : ℕ) → i < n → st (suc i) ≡ st i + size i)
    → ((i : ℕ) → i < n → f i ≡ part s (b + st i) (size i)) → part s b (st 0) ++ joined n f ≡ part s b (st n)
unfolding joined
joined-part s b zero f st size e h = append-nil (part s b (st 0))
joined-part s b (suc n) f st size e h =
    rw (← append_assoc (part s b (st 0)) (joined n f), joined-part s b n f st size (λ i l. e i (omega arith)) (λ i l. h i (omega arith)), h n (omega arith), e n (omega arith))
    (part-append s b (st n) (size n))

-- A word and its bytes.
pub little-length : (x : ℕ) → length (little x) ≡ 4
unfolding little
little-length x = refl

word_arith : (x : ℕ) → x < 4294967296 → x % 256 + 256 * (x / 256 % 256) + 65536 * (x / 256 / 256 % 256) + 16777216 * (x / 256 / 256 / 256 % 256) ≡ x
word_arith x h = omega arith

-- where four bytes of a list are a word's, the word stands there
pub word_little : (s : List ℕ) (p x : ℕ) → x < 4294967296 → ((i : ℕ) → i < 4 → get_or s (p + i) 0 ≡ get_or (little x) i 0) → word_at s p ≡ x
unfolding word_at little
word_little s p x h e =
    let e0 : get_or s p 0 ≡ x % 256 = rw add-zero at (e 0 (omega arith)) in
    rw (e0, e 1 (omega arith), e 2 (omega arith), e 3 (omega arith)) (word_arith x h)

little_arith : (a b c d : ℕ) → a < 256 → b < 256 → c < 256 → d < 256 → little (a + 256 * b + 65536 * c + 16777216 * d) ≡ a ∷ b ∷ c ∷ d ∷ []
unfolding little
little_arith a b c d ha hb hc hd =
    let x = a + 256 * b + 65536 * c + 16777216 * d in
    let e1 : x / 256 ≡ b + 256 * c + 65536 * d = omega arith in
    let e2 : (b + 256 * c + 65536 * d) / 256 ≡ c + 256 * d = omega arith in
    let e3 : (c + 256 * d) / 256 ≡ d = omega arith in
    let f0 : x % 256 ≡ a = omega arith in
    let f1 : (b + 256 * c + 65536 * d) % 256 ≡ b = omega arith in
    let f2 : (c + 256 * d) % 256 ≡ c = omega arith in
    let f3 : d % 256 ≡ d = omega arith in
    rw (f0, e1, f1, e2, f2, e3, f3)

-- a word read from bytes has those bytes
pub little_word : (s : List ℕ) (p : ℕ) → Bytes s → little (word_at s p) ≡ part s p 4
unfolding word_at part
little_word s p b = rw add-zero (little_arith _ _ _ _ (b.byte p) (b.byte (p + 1)) (b.byte (p + 2)) (b.byte (p + 3)))
