-- Laws of decimal numbers.
use Prim.Native.Nat.{ℕ, zero, suc, ◌+◌, ◌/◌, ◌%◌, ◌^◌, ◌≤◌, ◌<◌}
use mathlib.Core.Path.{◌≡◌, refl, sym, ap, ◌∙◌}
use mathlib.Core.List.{List, [], ◌∷◌, ◌++◌}
use native.Mathlib.Decide.{dec_le}
use native.Mathlib.Omega.{arith}
use borrow.Author.Tests.{lt-ltb, le-ltb}
use lib.ListN.{length}
use Rattle.std.specs.Fmt as fmt
use Rattle.std.proofs.lemmas.Fmt.{decimal_by_steps, length-decimal-le}
use Rattle.line.specs.Decimal.{decimal_digits, decimal}

digits_low : (k n : ℕ) → n < 10 → decimal_digits k n ≡ (48 + n) ∷ []
unfolding decimal_digits
digits_low zero n h = refl
digits_low (suc k) n h = rw (lt-ltb n 10 h)

digits_high : (k n : ℕ) → 10 ≤ n → decimal_digits (suc k) n ≡ decimal_digits k (n / 10) ++ (48 + n % 10) ∷ []
unfolding decimal_digits
digits_high k n h = rw (le-ltb n 10 h)

-- more room than is needed changes nothing
digits_room : (k j n : ℕ) → n ≤ k → n ≤ j → decimal_digits k n ≡ decimal_digits j n
digits_room zero j n h l = digits_low 0 n (omega arith) ∙ sym (digits_low j n (omega arith))
digits_room (suc k) zero n h l = digits_low (suc k) n (omega arith) ∙ sym (digits_low 0 n (omega arith))
digits_room (suc k) (suc j) n h l =
    elim (dec_le 10 n) [
      | yes q ↦ digits_high k n q
          ∙ ap (λ (t : List ℕ). t ++ (48 + n % 10) ∷ []) (digits_room k j (n / 10) (omega arith) (omega arith))
          ∙ sym (digits_high j n q)
      | no q ↦ (let r : n < 10 = omega arith in digits_low (suc k) n r ∙ sym (digits_low (suc j) n r))
    ]

pub decimal_low : (n : ℕ) → n < 10 → decimal n ≡ (48 + n) ∷ []
unfolding decimal
decimal_low n h = digits_low n n h

pub decimal_high : (n : ℕ) → 10 ≤ n → decimal n ≡ decimal (n / 10) ++ (48 + n % 10) ∷ []
unfolding decimal
decimal_high zero h = absurd (omega arith)
decimal_high (suc k) h =
    digits_high k (suc k) h
    ∙ ap (λ (t : List ℕ). t ++ (48 + suc k % 10) ∷ []) (digits_room k (suc k / 10) (suc k / 10) (omega arith) (omega arith))

-- by the number of digits
pub decimal_two : (n : ℕ) → 10 ≤ n → n < 100 → decimal n ≡ (48 + n / 10) ∷ (48 + n % 10) ∷ []
decimal_two n h l =
    decimal_high n h ∙ ap (λ (t : List ℕ). t ++ (48 + n % 10) ∷ []) (decimal_low (n / 10) (omega arith))

pub decimal_three : (n : ℕ) → 100 ≤ n → n < 1000 → decimal n ≡ (48 + n / 10 / 10) ∷ (48 + n / 10 % 10) ∷ (48 + n % 10) ∷ []
decimal_three n h l =
    decimal_high n (omega arith)
    ∙ ap (λ (t : List ℕ). t ++ (48 + n % 10) ∷ []) (decimal_two (n / 10) (omega arith) (omega arith))

-- it is what std prints of a number, which says how many digits there are at most
pub decimal_std : (n : ℕ) → n < 2 ^ 64 → decimal n ≡ fmt.decimal n
decimal_std n h =
    decimal_by_steps (λ (n : ℕ) (ds : List ℕ). decimal n ≡ ds) decimal_low
    (λ (n : ℕ) (ds : List ℕ) l e. decimal_high n l ∙ ap (λ (t : List ℕ). t ++ (48 + n % 10) ∷ []) e)
    n h

decimal_most : (k n : ℕ) → 0 < k → n < 10 ^ k → n < 2 ^ 64 → length (decimal n) ≤ k
decimal_most k n h l m = rw (decimal_std n m) (length-decimal-le k n h l m)

pub decimal_3 : (n : ℕ) → n < 1000 → length (decimal n) ≤ 3
decimal_3 n h = decimal_most 3 n (omega arith) h (omega arith)

pub decimal_4 : (n : ℕ) → n < 10000 → length (decimal n) ≤ 4
decimal_4 n h = decimal_most 4 n (omega arith) h (omega arith)
