-- Laws of a port's fields and their 64 bits.
use Prim.Native.Nat.{ℕ, zero, suc, ◌+◌, ◌-◌, ◌*◌, ◌/◌, ◌%◌, ◌^◌, ◌<◌, ◌≤◌}
use mathlib.Core.Path.{◌≡◌, refl, sym, ap, ap₂, ◌∙◌}
use mathlib.Core.Bool.{Bool, true, false, not}
use mathlib.Core.List.{List, [], ◌∷◌, ◌++◌}
use native.Mathlib.Omega.{arith}
use native.Mathlib.Nat.{lt_of_lt_of_le, mod-eq_of_lt}
use lib.ListN.{length, get_or, take, drop, length-append, get_or-append, length-drop}
use lib.Seq.{ext_get_or, get_or-append-add, get_or-take, get_or-drop, take-add, take_all, length-take-le}
use lib.Dec.{leb}
use lib.Pow.{pow_mono}
use borrow.Author.Tests.{le-leb, lt-leb, leb-false, eq-eqb}
use Rattle.std.specs.Prelude.{Result, Err, Ok, ◌≢◌}
use Rattle.std.proofs.lemmas.Nat.{pow_pos}
use Rattle.std.proofs.Math.Nat.{div-eq_of_lt, lt-div-mul-add}
use native.Mathlib.Decide.{dec_le}
use Rattle.answer.specs.declared.Reason.TheVariants.{Length}
use Rattle.answer.specs.Answers.{Answer, giving}
use Rattle.kreyvium.specs.Words.{bit}
use Rattle.kreyvium.proofs.Bits.{bit_small}
use Rattle.answer.specs.Choose.{choose}
use Rattle.answer.specs.Fronts.{over, left}
use Rattle.answer.proofs.Rows.{first_done, then_done, both, refuse_not, given}
use Rattle.answer.proofs.Over.{take-over}
use Rattle.answer.specs.Judges.{length_answer}
use Rattle.answer.proofs.Judges.{length_done, bits-within, bits_done, done_bits}
use Rattle.filter.specs.Filter.{tab}
use Rattle.filter.proofs.Tab.{tab-length, tab-at}
use Rattle.port.specs.declared.Port.{Port}
use Rattle.port.specs.declared.Field.{Field}
use Rattle.port.specs.declared.Field.TheVariants.{Number, Admin, Link, Errors, Load}
use Rattle.port.specs.Bytes.{value_at, high_first, BitList}
use Rattle.port.specs.Layout.{port_with, bits_of, port_of, Fits, within, port_made, fields_answer, found_by, BitsWritten}
use Rattle.port.proofs.Parts.{lent, back, put_after}
use Rattle.port.proofs.Digits.{digits_below, digits_field, binary_bit}

-- ---- a field of any width at any place

-- bit i of high_first n x
abbrev pub high_bit : ℕ → ℕ → ℕ → ℕ
high_bit n x i = bit x (n - 1 - i)

pub high_bit_lem : (n x i : ℕ) → x / 2 ^ (n - 1 - i) % 2 ≡ high_bit n x i
unfolding bit
high_bit_lem n x i = refl

pub high_first_lem : (n x i : ℕ) → i ≡ n → tab (high_bit n x) i ≡ high_first n x
unfolding high_first
high_first_lem n x i e = ap (tab (high_bit n x)) e

pub high_length : (n x : ℕ) → length (high_first n x) ≡ n
unfolding high_first
high_length n x = tab-length (high_bit n x) n

pub high_at : (n x i : ℕ) → i < n → get_or (high_first n x) i 0 ≡ high_bit n x i
unfolding high_first
high_at n x i l = tab-at (high_bit n x) n i l

high_bits : (n x i : ℕ) → get_or (high_first n x) i 0 ≤ 1
high_bits n x =
    bits-within (high_first n x) (λ i l. rw (high_at n x i (omega (arith, high_length n x))) (bit_small x (n - 1 - i)))

-- a front with a field behind it: its length, its bits
pub front_length : (front : List ℕ) (p n x : ℕ) → length front ≡ p → length (front ++ high_first n x) ≡ p + n
front_length front p n x e = length-append front (high_first n x) ∙ ap₂ (λ (a b : ℕ). a + b) e (high_length n x)

front-bits : (front : List ℕ) (n x : ℕ) → ((i : ℕ) → get_or front i 0 ≤ 1) → (i : ℕ) → get_or (front ++ high_first n x) i 0 ≤ 1
front-bits [] n x h i = high_bits n x i
front-bits (b ∷ front) n x h zero = h 0
front-bits (b ∷ front) n x h (suc i) = front-bits front n x (λ k. h (suc k)) i

-- what is read of a field is its value's low bits, and its value if that fits
pub field_read : (front : List ℕ) (p n x : ℕ) → length front ≡ p → value_at 2 (front ++ high_first n x) p n ≡ x % 2 ^ n
field_read front p n x e =
    digits_field (front ++ high_first n x) p n x 0
    (λ i l.
    ap (λ (k : ℕ). get_or (front ++ high_first n x) (k + i) 0) (sym e)
    ∙ get_or-append-add front (high_first n x) i 0
    ∙ high_at n x i l
    ∙ ap (bit x) (omega arith))
    ∙ ap (λ (y : ℕ). y % 2 ^ n) (omega arith)

pub field_held : (front : List ℕ) (p n x : ℕ) → length front ≡ p → x < 2 ^ n → value_at 2 (front ++ high_first n x) p n ≡ x
field_held front p n x e l = field_read front p n x e ∙ mod-eq_of_lt l

-- what stands behind is not read
pub read_front : (front rest : List ℕ) (p n : ℕ) → p + n ≤ length front → value_at 2 (front ++ rest) p n ≡ value_at 2 front p n
unfolding value_at
read_front front rest p zero l = refl
read_front front rest p (suc n) l =
    ap₂ (λ (a b : ℕ). a * 2 + b) (read_front front rest p n (omega arith)) (get_or-append front rest 0 (p + n) (omega arith))

-- a number that is read of bits has room in a field of as many bits
pub read_below : (b : List ℕ) (p n : ℕ) → ((i : ℕ) → get_or b i 0 ≤ 1) → value_at 2 b p n < 2 ^ n
read_below b p n h = digits_below 2 b p n (λ i l. omega (arith, h (p + i)))

pub read_small : (b : List ℕ) (p n m : ℕ) → ((i : ℕ) → get_or b i 0 ≤ 1) → n ≤ m → value_at 2 b p n < 2 ^ m
read_small b p n m h l = lt_of_lt_of_le (read_below b p n h) (pow_mono l)

-- and put behind the bits before it gives its bits back
pub field_back : (b : List ℕ) (p n : ℕ) {front : List ℕ} → ((i : ℕ) → get_or b i 0 ≤ 1) → p + n ≤ length b → front ≡ take p b
    → front ++ high_first n (value_at 2 b p n) ≡ take (p + n) b
field_back b p n h l e =
    let x = value_at 2 b p n in
    let len : length (high_first n x) ≡ length (take n (drop p b)) = omega (arith, high_length n x, length-take-le n (drop p b) (omega (arith, length-drop p b))) in
    ap₂ (λ (s t : List ℕ). s ++ t) e
    (ext_get_or 0 (high_first n x) (take n (drop p b)) len
    (λ i g.
    let k : i < n = omega (arith, high_length n x) in
    high_at n x i k ∙ binary_bit b p n i (λ j m. h (p + j)) k ∙ sym (get_or-take n (drop p b) i 0 k ∙ get_or-drop p b i 0)))
    ∙ sym (take-add p n b)

-- ---- the five fields

module _ (p : Port) where
  -- the bits of the first one, two, three and four
  abbrev front1 : List ℕ
  front1 = high_first 16 p.number

  abbrev front2 : List ℕ
  front2 = front1 ++ high_first 1 p.admin

  abbrev front3 : List ℕ
  front3 = front2 ++ high_first 1 p.link

  abbrev front4 : List ℕ
  front4 = front3 ++ high_first 22 p.errors

  length1 : length front1 ≡ 16
  length1 = high_length 16 p.number

  length2 : length front2 ≡ 17
  length2 = front_length front1 16 1 p.admin length1

  length3 : length front3 ≡ 18
  length3 = front_length front2 17 1 p.link length2

  length4 : length front4 ≡ 40
  length4 = front_length front3 18 22 p.errors length3

  pub bits-length : length (bits_of p) ≡ 64
  unfolding bits_of
  bits-length = front_length front4 40 24 p.load length4

  pub bits_are_bits : (i : ℕ) → get_or (bits_of p) i 0 ≤ 1
  unfolding bits_of
  bits_are_bits =
      front-bits front4 24 p.load
      (front-bits front3 22 p.errors (front-bits front2 1 p.link (front-bits front1 1 p.admin (high_bits 16 p.number))))

  -- For code: each field put behind those before it.
  pub all_put : (old a b c d e : List ℕ) → 64 ≤ length old
      → a ≡ over (high_first 16 p.number) old
      → b ≡ over (high_first 1 p.admin) (lent 16 a)
      → c ≡ over (high_first 1 p.link) (lent 17 (back 16 a b))
      → d ≡ over (high_first 22 p.errors) (lent 18 (back 17 (back 16 a b) c))
      → e ≡ over (high_first 24 p.load) (lent 40 (back 18 (back 17 (back 16 a b) c) d))
      → back 40 (back 18 (back 17 (back 16 a b) c) d) e ≡ over (bits_of p) old
  unfolding bits_of
  all_put old a b c d e l i j k m n =
      put_after front4 _ old 40 length4 (omega arith)
      (put_after front3 _ old 18 length3 (omega arith)
      (put_after front2 _ old 17 length2 (omega arith) (put_after front1 _ old 16 length1 (omega arith) i j) k)
      m)
      n

  -- what is read of the bits within the first four, three, two or one
  read4 : (i n : ℕ) → i + n ≤ 40 → value_at 2 (bits_of p) i n ≡ value_at 2 front4 i n
  unfolding bits_of
  read4 i n l = read_front front4 _ i n (omega (arith, length4))

  read3 : (i n : ℕ) → i + n ≤ 18 → value_at 2 (bits_of p) i n ≡ value_at 2 front3 i n
  read3 i n l = read4 i n (omega arith) ∙ read_front front3 _ i n (omega (arith, length3))

  read2 : (i n : ℕ) → i + n ≤ 17 → value_at 2 (bits_of p) i n ≡ value_at 2 front2 i n
  read2 i n l = read3 i n (omega arith) ∙ read_front front2 _ i n (omega (arith, length2))

  read1 : (i n : ℕ) → i + n ≤ 16 → value_at 2 (bits_of p) i n ≡ value_at 2 front1 i n
  read1 i n l = read2 i n (omega arith) ∙ read_front front1 _ i n (omega (arith, length1))

-- ports equal by their fields
pub same_port : {a a' b b' c c' d d' e e' : ℕ} → a ≡ a' → b ≡ b' → c ≡ c' → d ≡ d' → e ≡ e' → port_with a b c d e ≡ port_with a' b' c' d' e'
same_port a b c d e = cc

-- Both ways: the fields of a port's bits, the bits of the fields of 64 bits.
pub fields_of_bits : (p : Port) → Fits p → port_of (bits_of p) ≡ p
unfolding port_of bits_of
fields_of_bits p f =
    same_port (read1 p 0 16 (omega arith) ∙ field_held [] 0 16 p.number refl f.number)
    (read2 p 16 1 (omega arith) ∙ field_held (front1 p) 16 1 p.admin (length1 p) f.admin)
    (read3 p 17 1 (omega arith) ∙ field_held (front2 p) 17 1 p.link (length2 p) f.link)
    (read4 p 18 22 (omega arith) ∙ field_held (front3 p) 18 22 p.errors (length3 p) f.errors)
    (field_held (front4 p) 40 24 p.load (length4 p) f.load)

module _ (b : List ℕ) (size : length b ≡ 64) (bits : (i : ℕ) → get_or b i 0 ≤ 1) where
  pub bits_of_fields : bits_of (port_of b) ≡ b
  unfolding bits_of port_of
  bits_of_fields =
      field_back b 40 24 bits (omega arith)
      (field_back b 18 22 bits (omega arith)
      (field_back b 17 1 bits (omega arith) (field_back b 16 1 bits (omega arith) (field_back b 0 16 bits (omega arith) refl))))
      ∙ take_all 64 b (omega arith)

  pub found_fits : Fits (port_of b)
  unfolding port_of
  found_fits =
      record {
        number = read_below b 0 16 bits;
        admin = read_below b 16 1 bits;
        link = read_below b 17 1 bits;
        errors = read_below b 18 22 bits;
        load = read_below b 40 24 bits;
      }

-- ---- ports that are made

-- For code: a value whose high bits are not all 0 is too large, another fits.
module _ {X : Type 0} (f : Field) (w x : ℕ) (m : Result X Field) where
  pub too_large : x / 2 ^ w ≢ 0 → Err f ≡ within f w x m
  unfolding within
  too_large h =
      elim (dec_le (2 ^ w) x) [
        | yes l ↦ rw (le-leb (2 ^ w) x l)
        | no l ↦ absurd (h (div-eq_of_lt (omega arith)))
      ]

  pub fitting : x < 2 ^ w → m ≡ within f w x m
  unfolding within
  fitting h = rw (lt-leb (2 ^ w) x h)

  pub no_high : x / 2 ^ w ≡ 0 → m ≡ within f w x m
  no_high e = fitting (omega (arith, rw e at (lt-div-mul-add {a = x} {b = 2 ^ w} (pow_pos w))))

  -- where `?` passes the field on, and where it goes on
  pub large_by : {r : Result (Unit {0}) Field} {s : Result X Field} {e : Field} → s ≡ Err e → r ≡ within f w x (Ok tt) → r ≡ Err e → s ≡ within f w x m
  unfolding within
  large_by {r} {s} {e} k i j = by (leb (2 ^ w) x) (sym j ∙ i)
    where
      by : (t : Bool) → ◌≡◌ {A = Result (Unit {0}) Field} (Err e) (choose t (Err f) (Ok tt)) → s ≡ choose t (Err f) m
      by true i = cc
      by false i = cc

  pub next : {r : Result (Unit {0}) Field} {s : Result X Field} {u : Unit {0}} → r ≡ within f w x (Ok tt) → r ≡ Ok u → s ≡ m → s ≡ within f w x m
  unfolding within
  next {r} {s} {u} i j k = by (leb (2 ^ w) x) (sym j ∙ i)
    where
      by : (t : Bool) → ◌≡◌ {A = Result (Unit {0}) Field} (Ok u) (choose t (Err f) (Ok tt)) → s ≡ choose t (Err f) m
      by true i = cc
      by false i = k

-- what a port that was made tells of a field
within-fits : (f : Field) (w x : ℕ) (m : Result Port Field) (p : Port) → within f w x m ≡ Ok p → (x < 2 ^ w) × (m ≡ Ok p)
unfolding within
within-fits f w x m p e = by (leb (2 ^ w) x) refl e
  where
    by : (t : Bool) → leb (2 ^ w) x ≡ t → choose t (Err f) m ≡ Ok p → (x < 2 ^ w) × (m ≡ Ok p)
    by true h e = cc
    by false h e = (leb-false (2 ^ w) x h, e)

-- A port is made exactly of values that fit, and holds them.
module _ (number admin link errors load : ℕ) where
  pub made_fits : (p : Port) → port_made number admin link errors load ≡ Ok p → Fits p × (p ≡ port_with number admin link errors load)
  unfolding port_made
  made_fits p e =
      let a = within-fits Number 16 number _ p e in
      let b = within-fits Admin 1 admin _ p a.1 in
      let c = within-fits Link 1 link _ p b.1 in
      let d = within-fits Errors 22 errors _ p c.1 in
      let q = within-fits Load 24 load _ p d.1 in
      let same : p ≡ port_with number admin link errors load = cc q.1 in
      (rw same record { number = a.0; admin = b.0; link = c.0; errors = d.0; load = q.0 }, same)

  pub fits_made : Fits (port_with number admin link errors load) → port_made number admin link errors load ≡ Ok (port_with number admin link errors load)
  unfolding port_made
  fits_made f =
      sym
      (fitting Load 24 load _ f.load
      ∙ fitting Errors 22 errors _ f.errors
      ∙ fitting Link 1 link _ f.link
      ∙ fitting Admin 1 admin _ f.admin
      ∙ fitting Number 16 number _ f.number)

-- ---- the calls

-- a list of bits is accepted exactly if it is one of 64 bits
pub fields_done : (b : List ℕ) → fields_answer b ≡ Ok tt → (length b ≡ 64) × ((i : ℕ) → get_or b i 0 ≤ 1)
unfolding fields_answer
fields_done b e = (length_done 1 (length b) 64 (first_done _ _ e), bits-within b (bits_done 1 b (then_done _ _ e)))

pub done_fields : (b : List ℕ) → length b ≡ 64 → ((i : ℕ) → get_or b i 0 ≤ 1) → fields_answer b ≡ Ok tt
unfolding fields_answer length_answer
done_fields b e h = both (refuse_not Length 1 (length b) (ap not (eq-eqb (length b) 64 e))) (done_bits 1 b (λ k l. h k))

-- For code: bits that are accepted, and their port.
pub fields_held : {b : List ℕ} {r : Answer} {u : Unit {0}} → r ≡ fields_answer b → r ≡ Ok u → BitList 64 b
fields_held {b} e h = let d = fields_done b (sym e ∙ h) in record { size = d.0; bit = d.1 }

pub found_go : {a r : Answer} {p q : Port} → r ≡ a → r ≡ Ok tt → q ≡ p → Ok q ≡ found_by a p
unfolding giving
found_go e h k = rw (← e, h, k)

found_record : (r : Answer) (q p : Port) → found_by r q ≡ Ok p → (r ≡ Ok tt) × (q ≡ p)
unfolding giving
found_record (Ok _) q p e = (refl, cc)
found_record (Err r) q p e = cc

-- what `bits` leaves
wrote : (p : Port) (out out' : List ℕ) → BitsWritten p out (Ok tt) out' → take 64 out' ≡ bits_of p
unfolding left
wrote p out out' w =
    ap (take 64) w.written ∙ ap (λ (n : ℕ). take n (over (bits_of p) out)) (sym (bits-length p)) ∙ take-over (bits_of p) out

-- Handed to `fields` it is found as the port.
pub fields_back : (p : Port) (out out' : List ℕ) → Fits p → BitsWritten p out (Ok tt) out' → found_by (fields_answer (take 64 out')) (port_of (take 64 out')) ≡ Ok p
fields_back p out out' f w =
    ap (λ (t : List ℕ). found_by (fields_answer t) (port_of t)) (wrote p out out' w)
    ∙ ap (found_by (fields_answer (bits_of p))) (fields_of_bits p f)
    ∙ sym (given p (done_fields (bits_of p) (bits-length p) (bits_are_bits p)))

-- And a port that `fields` found in some bits is written as those bits.
pub bits_back : (b : List ℕ) (p : Port) (out out' : List ℕ) → found_by (fields_answer b) (port_of b) ≡ Ok p → BitsWritten p out (Ok tt) out' → take 64 out' ≡ b
bits_back b p out out' e w =
    let r = found_record (fields_answer b) (port_of b) p e in
    let d = fields_done b r.0 in
    wrote p out out' w ∙ ap bits_of (sym r.1) ∙ bits_of_fields b d.0 d.1
