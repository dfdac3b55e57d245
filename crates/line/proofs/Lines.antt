-- What a whole input asks is the line of two numbers of at most three digits, and nothing else.
use Prim.Native.Nat.{ℕ, ◌+◌, ◌*◌, ◌/◌, ◌%◌, ◌≤◌, ◌<◌}
use mathlib.Core.Bool.{Bool, true, false}
use mathlib.Core.Path.{◌≡◌, refl, sym, ap, ◌∙◌}
use mathlib.Core.List.{List, [], ◌∷◌, ◌++◌, append_assoc}
use native.Mathlib.Decide.{dec_le}
use native.Mathlib.Omega.{arith}
use borrow.Author.Tests.{eqb-true}
use lib.Dec.{eqb}
use lib.ListN.{length, get_or, length-append, drop_of_length-le}
use lib.Seq.{get_or-append-add, get_or-append_seam}
use Rattle.std.specs.Prelude.{Option, Some, None}
use Rattle.std.specs.Char.{is_ascii_digit}
use Rattle.std.proofs.lemmas.Bool.Decides.{nat_tests}
use Rattle.answer.specs.Choose.{choose}
use Rattle.line.specs.declared.Line.{Line}
use Rattle.line.specs.declared.Number.{Number}
use Rattle.line.specs.Decimal.{decimal}
use Rattle.line.specs.Asked.{line_of, IsLine, asking, read, number_at, ended_by, followed, asked_of}
use Rattle.line.proofs.Decimals.{decimal_low, decimal_two, decimal_three, decimal_3}
use Rattle.line.proofs.Reading.{Digits, next_byte, number_only, one_there, two_there, three_there}

-- ---- an input that asks for a line is that line
whole : (s : List ℕ) (p q : Number) → Digits s 0 p → get_or s p.past 0 ≡ 32 → Digits s (p.past + 1) q → get_or s q.past 0 ≡ 10 → length s ≡ q.past + 1
    → IsLine s p.value q.value
unfolding line_of
whole s p q a e b f l =
    let m : length s ≤ q.past + 1 = omega arith in
    record {
      line =
          a.text
          ∙ ap (λ (t : List ℕ). decimal p.value ++ t)
          (next_byte s p.past 32 e (omega arith)
          ∙ ap (λ (t : List ℕ). 32 ∷ t)
          (b.text
          ∙ ap (λ (t : List ℕ). decimal q.value ++ t)
          (next_byte s q.past 10 f (omega arith) ∙ ap (λ (t : List ℕ). 10 ∷ t) (drop_of_length-le s m))))
          ∙ sym (append_assoc (decimal p.value) (32 ∷ decimal q.value) (10 ∷ []));
      first = a.small;
      second = b.small;
    }

asked_second : (s : List ℕ) (p : Number) (d n : ℕ) (o : Option Number) → Digits s 0 p → get_or s p.past 0 ≡ 32 → number_at s (p.past + 1) ≡ o
    → ended_by s p.value o ≡ asking d n → IsLine s d n
unfolding ended_by
asked_second s p d n None a e f h = cc
asked_second s p d n (Some q) a e f h = go (eqb (get_or s q.past 0) 10) refl (eqb (length s) (q.past + 1)) refl h
  where
    go : (x : Bool) → eqb (get_or s q.past 0) 10 ≡ x → (y : Bool) → eqb (length s) (q.past + 1) ≡ y
        → choose x (choose y (asking p.value q.value) None) None ≡ asking d n → IsLine s d n
    go false k y l h = cc
    go true k false l h = cc
    go true k true l h =
        let r : ◌≡◌ {A = Line} (record { d = p.value; n = q.value }) (record { d = d; n = n }) = cc in
        rw (← ap Line.d r, ← ap Line.n r) (whole s p q a e (number_only s (p.past + 1) q f) (eqb-true _ 10 k) (eqb-true _ _ l))

asked_first : (s : List ℕ) (d n : ℕ) (o : Option Number) → number_at s 0 ≡ o → followed s o ≡ asking d n → IsLine s d n
unfolding followed
asked_first s d n None e h = cc
asked_first s d n (Some p) e h = go (eqb (get_or s p.past 0) 32) refl h
  where
    go : (x : Bool) → eqb (get_or s p.past 0) 32 ≡ x → choose x (ended_by s p.value (number_at s (p.past + 1))) None ≡ asking d n → IsLine s d n
    go false k h = cc
    go true k h = asked_second s p d n (number_at s (p.past + 1)) (number_only s 0 p e) (eqb-true _ 32 k) refl h

pub asked_only : (s : List ℕ) (d n : ℕ) → asked_of s ≡ asking d n → IsLine s d n
unfolding asked_of
asked_only s d n e = asked_first s d n (number_at s 0) refl e

-- ---- and a line is asked for
module _ (pre rest : List ℕ) (v c : ℕ) (k : is_ascii_digit c ≡ false) where
  line_at : (t : List ℕ) (i : ℕ) → decimal v ≡ t → get_or (pre ++ (decimal v ++ c ∷ rest)) (length pre + i) 0 ≡ get_or (t ++ c ∷ rest) i 0
  line_at t i e = get_or-append-add pre _ i 0 ∙ ap (λ (t : List ℕ). get_or (t ++ c ∷ rest) i 0) e

  line_first : (t : List ℕ) → decimal v ≡ t → get_or (pre ++ (decimal v ++ c ∷ rest)) (length pre) 0 ≡ get_or (t ++ c ∷ rest) 0 0
  line_first t e =
      let z : length pre ≡ length pre + 0 = omega arith in
      ap (λ (i : ℕ). get_or (pre ++ (decimal v ++ c ∷ rest)) i 0) z ∙ line_at t 0 e

  pub number_line : v ≤ 999 → number_at (pre ++ (decimal v ++ c ∷ rest)) (length pre) ≡ read v (length pre + length (decimal v))
  number_line h =
      elim (dec_le 10 v) [
        | yes p ↦ elim (dec_le 100 v) [ yes q ↦ three q | no q ↦ two p (omega arith) ]
        | no p ↦ one (omega arith)
      ]
    where
      s : List ℕ
      s = pre ++ (decimal v ++ c ∷ rest)

      i : ℕ
      i = length pre

      one : v < 10 → number_at s i ≡ read v (i + length (decimal v))
      one l =
          let t = decimal_low v l in
          one_there s i v c (omega arith) (line_first _ t) (line_at _ 1 t) k ∙ (λ j. read v (i + length (sym t j)))

      two : 10 ≤ v → v < 100 → number_at s i ≡ read v (i + length (decimal v))
      two l m =
          let t = decimal_two v l m in
          let z : v / 10 * 10 + v % 10 ≡ v = omega arith in
          two_there s i (v / 10) (v % 10) (omega arith) (line_first _ t) (omega arith) (omega arith) (line_at _ 1 t) c (line_at _ 2 t) k
          ∙ (λ j. read (z j) (i + length (sym t j)))

      three : 100 ≤ v → number_at s i ≡ read v (i + length (decimal v))
      three l =
          let t = decimal_three v l (omega arith) in
          let z : v / 10 / 10 * 100 + v / 10 % 10 * 10 + v % 10 ≡ v = omega arith in
          three_there s i (v / 10 / 10) (v / 10 % 10) (omega arith) (line_first _ t) (omega arith) (omega arith) (line_at _ 1 t) (v % 10) (line_at _ 2 t) (omega arith)
          ∙ (λ j. read (z j) (i + length (sym t j)))

asked_by : (s : List ℕ) (d i n j : ℕ) → number_at s 0 ≡ read d i → get_or s i 0 ≡ 32 → number_at s (i + 1) ≡ read n j → get_or s j 0 ≡ 10
    → length s ≡ j + 1 → asked_of s ≡ asking d n
unfolding asked_of followed ended_by
asked_by s d i n j a b c e l = grind (arith, nat_tests)

pub asked_line : (d n : ℕ) → d ≤ 999 → n ≤ 999 → asked_of (line_of d n) ≡ asking d n
unfolding line_of
asked_line d n h k =
    let s = decimal d ++ 32 ∷ decimal n ++ 10 ∷ [] in
    let i = length (decimal d) in
    let p = decimal d ++ 32 ∷ [] in
    let e : s ≡ decimal d ++ 32 ∷ (decimal n ++ 10 ∷ []) = append_assoc (decimal d) (32 ∷ decimal n) (10 ∷ []) in
    let f : s ≡ p ++ (decimal n ++ 10 ∷ []) = e ∙ sym (append_assoc (decimal d) (32 ∷ []) (decimal n ++ 10 ∷ [])) in
    let z : 0 + i ≡ i = omega arith in
    let lp : length p ≡ i + 1 = length-append (decimal d) (32 ∷ []) in
    let j = i + 1 + length (decimal n) in
    let first : number_at s 0 ≡ read d i =
    ap (λ (t : List ℕ). number_at t 0) e ∙ number_line [] (decimal n ++ 10 ∷ []) d 32 refl h ∙ ap (read d) z in
    let second : number_at s (i + 1) ≡ read n j =
    (λ a. number_at (f a) (sym lp a)) ∙ number_line p [] n 10 refl k ∙ ap (λ (x : ℕ). read n (x + length (decimal n))) lp in
    let b : get_or s i 0 ≡ 32 = ap (λ (t : List ℕ). get_or t i 0) e ∙ get_or-append_seam (decimal d) 32 (decimal n ++ 10 ∷ []) 0 in
    let l : length s ≡ j + 1 = omega (arith, length-append (decimal d ++ 32 ∷ decimal n) (10 ∷ []), length-append (decimal d) (32 ∷ decimal n)) in
    let q : length (decimal d ++ 32 ∷ decimal n) ≡ j = omega (arith, length-append (decimal d) (32 ∷ decimal n)) in
    let c : get_or s j 0 ≡ 10 = ap (λ (x : ℕ). get_or s x 0) (sym q) ∙ get_or-append_seam (decimal d ++ 32 ∷ decimal n) 10 [] 0 in
    asked_by s d i n j first b second c l

-- ---- an input longer than any line asks for nothing
line_most : (s : List ℕ) (d n : ℕ) → IsLine s d n → length s ≤ 8
unfolding line_of
line_most s d n l =
    omega (arith, ap length l.line, length-append (decimal d ++ 32 ∷ decimal n) (10 ∷ []), length-append (decimal d) (32 ∷ decimal n), decimal_3 d (omega (arith, l.first)), decimal_3 n (omega (arith, l.second)))

long_asks : (s : List ℕ) (a : Option Line) → asked_of s ≡ a → 8 < length s → a ≡ None
long_asks s None e h = refl
long_asks s (Some a) e h = absurd (omega (arith, line_most s a.d a.n (asked_only s a.d a.n e)))

pub long_nothing : (s : List ℕ) → 8 < length s → asked_of s ≡ None
long_nothing s h = long_asks s (asked_of s) refl h
