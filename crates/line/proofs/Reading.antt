-- A number as the code reads it: its digits, and no more.
use Prim.Native.Nat.{ℕ, zero, suc, ◌+◌, ◌*◌, ◌/◌, ◌%◌, ◌≤◌, ◌<◌}
use mathlib.Core.Bool.{false}
use mathlib.Core.Path.{◌≡◌, refl, sym, ap, ap₂, ◌∙◌}
use mathlib.Core.List.{List, [], ◌∷◌, ◌++◌}
use native.Mathlib.Omega.{arith}
use native.Mathlib.Numerals.{add-one}
use lib.ListN.{length, get_or, drop}
use lib.Seq.{drop-cons}
use Rattle.std.specs.Prelude.{Option, Some, None}
use Rattle.std.specs.Char.{is_ascii_digit}
use Rattle.std.proofs.lemmas.Grind.{common_steps}
use Rattle.std.proofs.lemmas.Bool.Decides.{leb_tells, nat_tests}
use Rattle.line.specs.declared.Number.{Number}
use Rattle.line.specs.Asked.{read, digit_at, number_of, number_at}
use Rattle.line.specs.Decimal.{decimal}
use Rattle.line.proofs.Decimals.{decimal_low, decimal_two, decimal_three}

-- a digit's byte and its value; another byte has none
pub digit_byte : (s : List ℕ) (i x : ℕ) → digit_at s i ≡ Some x → (get_or s i 0 ≡ 48 + x) × (x ≤ 9)
unfolding digit_at
digit_byte s i x e = grind (arith, common_steps, nat_tests, leb_tells)

digit_made : (s : List ℕ) (i x : ℕ) → get_or s i 0 ≡ 48 + x → x ≤ 9 → digit_at s i ≡ Some x
unfolding digit_at
digit_made s i x e h = grind (arith, common_steps, nat_tests, leb_tells)

digit_none : (s : List ℕ) (i b : ℕ) → get_or s i 0 ≡ b → is_ascii_digit b ≡ false → digit_at s i ≡ None
unfolding digit_at
digit_none s i b e h = rw (e, h) refl

pub number_past : (s : List ℕ) (i : ℕ) (q : Number) → number_at s i ≡ Some q → q.past ≤ i + 3
unfolding number_at number_of
number_past s i q e = grind arith

-- the digits a, b and c as a number
two_digits : (a b : ℕ) → 0 < a → a ≤ 9 → b ≤ 9 → decimal (a * 10 + b) ≡ (48 + a) ∷ (48 + b) ∷ []
two_digits a b h l k =
    let n = a * 10 + b in
    let x : 48 + n / 10 ≡ 48 + a = omega arith in
    let y : 48 + n % 10 ≡ 48 + b = omega arith in
    decimal_two n (omega arith) (omega arith) ∙ ap₂ (λ (x y : ℕ). x ∷ y ∷ []) x y

three_digits : (a b c : ℕ) → 0 < a → a ≤ 9 → b ≤ 9 → c ≤ 9 → decimal (a * 100 + b * 10 + c) ≡ (48 + a) ∷ (48 + b) ∷ (48 + c) ∷ []
three_digits a b c h l k m =
    let n = a * 100 + b * 10 + c in
    let x : 48 + n / 10 / 10 ≡ 48 + a = omega arith in
    let y : 48 + n / 10 % 10 ≡ 48 + b = omega arith in
    let z : 48 + n % 10 ≡ 48 + c = omega arith in
    decimal_three n (omega arith) (omega arith) ∙ (λ i. x i ∷ y i ∷ z i ∷ [])

-- a byte that is not 0 stands in the list, before the rest
pub inside : (s : List ℕ) (i : ℕ) → 0 < get_or s i 0 → i < length s
inside [] i h = absurd (omega arith)
inside (x ∷ s) zero h = omega arith
inside (x ∷ s) (suc i) h = omega (arith, inside s i h)

pub next_byte : (s : List ℕ) (i b : ℕ) → get_or s i 0 ≡ b → 0 < b → drop i s ≡ b ∷ drop (i + 1) s
next_byte s i b e h = rw (add-one i, ← e) (drop-cons s i 0 (inside s i (omega arith)))

-- where a number is read: its digits, and the place past them
pub record Digits (s : List ℕ) (i : ℕ) (q : Number) : Type 0 where
  pub small : q.value ≤ 999
  pub past : q.past ≤ i + 3
  pub within : q.past ≤ length s
  pub text : drop i s ≡ decimal q.value ++ drop q.past s

module _ (s : List ℕ) (i : ℕ) where
  next_digit : (j a : ℕ) → digit_at s j ≡ Some a → drop j s ≡ (48 + a) ∷ drop (j + 1) s
  next_digit j a x = next_byte s j (48 + a) (digit_byte s j a x).0 (omega arith)

  one_read : (a : ℕ) → digit_at s i ≡ Some a → Digits s i (record { value = a; past = i + 1 })
  one_read a x =
      let k = digit_byte s i a x in
      record {
        small = omega arith;
        past = omega arith;
        within = omega (arith, inside s i (omega arith));
        text = next_digit i a x ∙ ap (λ (t : List ℕ). t ++ drop (i + 1) s) (sym (decimal_low a (omega arith)));
      }

  two_read : (a b : ℕ) → 0 < a → digit_at s i ≡ Some a → digit_at s (i + 1) ≡ Some b → Digits s i (record { value = a * 10 + b; past = i + 2 })
  two_read a b h x y =
      let k = digit_byte s i a x in
      let l = digit_byte s (i + 1) b y in
      let z : i + 1 + 1 ≡ i + 2 = omega arith in
      record {
        small = omega arith;
        past = omega arith;
        within = omega (arith, inside s (i + 1) (omega arith));
        text =
            next_digit i a x
            ∙ ap (λ (t : List ℕ). (48 + a) ∷ t) (next_digit (i + 1) b y)
            ∙ ap (λ (k : ℕ). (48 + a) ∷ (48 + b) ∷ drop k s) z
            ∙ ap (λ (t : List ℕ). t ++ drop (i + 2) s) (sym (two_digits a b h k.1 l.1));
      }

  three_read : (a b c : ℕ) → 0 < a → digit_at s i ≡ Some a → digit_at s (i + 1) ≡ Some b → digit_at s (i + 2) ≡ Some c
      → Digits s i (record { value = a * 100 + b * 10 + c; past = i + 3 })
  three_read a b c h x y t =
      let k = digit_byte s i a x in
      let l = digit_byte s (i + 1) b y in
      let m = digit_byte s (i + 2) c t in
      let z : i + 1 + 1 ≡ i + 2 = omega arith in
      let w : i + 2 + 1 ≡ i + 3 = omega arith in
      record {
        small = omega arith;
        past = omega arith;
        within = omega (arith, inside s (i + 2) (omega arith));
        text =
            next_digit i a x
            ∙ ap (λ (t : List ℕ). (48 + a) ∷ t) (next_digit (i + 1) b y)
            ∙ ap (λ (k : ℕ). (48 + a) ∷ (48 + b) ∷ drop k s) z
            ∙ ap (λ (t : List ℕ). (48 + a) ∷ (48 + b) ∷ t) (next_digit (i + 2) c t)
            ∙ ap (λ (k : ℕ). (48 + a) ∷ (48 + b) ∷ (48 + c) ∷ drop k s) w
            ∙ ap (λ (t : List ℕ). t ++ drop (i + 3) s) (sym (three_digits a b c h k.1 l.1 m.1));
      }

  by_digits : (x y z : Option ℕ) (q : Number) → digit_at s i ≡ x → digit_at s (i + 1) ≡ y → digit_at s (i + 2) ≡ z
      → number_of i x y z ≡ Some q → Digits s i q
  unfolding number_of
  by_digits None y z q ex ey ez e = cc
  by_digits (Some zero) y z q ex ey ez e = let f : record { value = 0; past = i + 1 } ≡ q = cc in rw (← f) (one_read 0 ex)
  by_digits (Some (suc a)) None z q ex ey ez e =
      let f : record { value = suc a; past = i + 1 } ≡ q = cc in rw (← f) (one_read (suc a) ex)
  by_digits (Some (suc a)) (Some b) None q ex ey ez e =
      let f : record { value = suc a * 10 + b; past = i + 2 } ≡ q = cc in rw (← f) (two_read (suc a) b (omega arith) ex ey)
  by_digits (Some (suc a)) (Some b) (Some c) q ex ey ez e =
      let f : record { value = suc a * 100 + b * 10 + c; past = i + 3 } ≡ q = cc in
      rw (← f) (three_read (suc a) b c (omega arith) ex ey ez)

  pub number_only : (q : Number) → number_at s i ≡ Some q → Digits s i q
  unfolding number_at
  number_only q e = by_digits _ _ _ q refl refl refl e

  -- and a number whose bytes stand there is read
  module _ (a b : ℕ) (h : a ≤ 9) (e : get_or s i 0 ≡ 48 + a) where
    pub one_there : get_or s (i + 1) 0 ≡ b → is_ascii_digit b ≡ false → number_at s i ≡ read a (i + 1)
    unfolding number_at number_of
    one_there f k = grind (arith, digit_made s i a e h, digit_none s (i + 1) b f k)

    module _ (l : b ≤ 9) (m : 0 < a) (f : get_or s (i + 1) 0 ≡ 48 + b) (c : ℕ) where
      pub two_there : get_or s (i + 2) 0 ≡ c → is_ascii_digit c ≡ false → number_at s i ≡ read (a * 10 + b) (i + 2)
      unfolding number_at number_of
      two_there g k = grind (arith, digit_made s i a e h, digit_made s (i + 1) b f l, digit_none s (i + 2) c g k)

      pub three_there : get_or s (i + 2) 0 ≡ 48 + c → c ≤ 9 → number_at s i ≡ read (a * 100 + b * 10 + c) (i + 3)
      unfolding number_at number_of
      three_there g k = grind (arith, digit_made s i a e h, digit_made s (i + 1) b f l, digit_made s (i + 2) c g k)
