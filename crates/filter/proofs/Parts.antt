-- Laws of sums of monomials by parts: monomials of one degree, triangles, and parts end to end.
use Prim.Native.Nat.{ℕ, zero, suc, ◌+◌, ◌*◌, ◌%◌, ◌<◌, ◌≤◌}
use mathlib.Core.Path.{◌≡◌, refl, ap, sym, ◌∙◌}
use mathlib.Core.List.{List, [], ◌∷◌, ◌++◌}
use native.Mathlib.Omega.{arith}
use native.Mathlib.Nat.{suc-mul}
use native.Mathlib.Numerals.{add-one}
use lib.Bits.{bit_xor}
use lib.ListN.{length, get_or, take, drop, replicate, length-drop, length-take, length-append}
use lib.Seq.{drop-cons, drop-drop, take_at, take_all, drop_at}
use Rattle.std.proofs.lemmas.List.{take-take, drop-take}
use Rattle.filter.specs.Filter.{tab, prod, sum_of}
use Rattle.filter.specs.Instances.{degrees_to, copies}
use Rattle.filter.proofs.Sums.{regroup, sum_of-bit, xor_bit, Sum, sum-start, sum_step}
use Rattle.filter.proofs.Tab.{tab-length, tab-at}
use Rattle.filter.proofs.Published.{total, total-copies}

-- The loop over the degrees as in Sum, where the variables are enough for all of them.
module _ (ds xs : List ℕ) where
  pub record Part (acc : ℕ) (rest : List ℕ) (j : ℕ) : Type 0 where
    pub sums : Sum ds xs acc rest j
    pub room : total (drop j ds) ≤ length rest

  pub part-start : total ds ≤ length xs → Part 0 xs 0
  part-start h = record { sums = sum-start ds xs; room = omega arith }

  total_next : (j d : ℕ) → j < length ds → get_or ds j 0 ≡ d → total (drop j ds) ≡ d + total (drop (j + 1) ds)
  unfolding total
  total_next j d l e = rw (drop-cons ds j 0, e, add-one)

  pub part_room : (acc j d : ℕ) (rest : List ℕ) → Part acc rest j → j < length ds → get_or ds j 0 ≡ d → d ≤ length rest
  part_room acc j d rest v l e = omega (arith, total_next j d l e, v.room)

  pub part_step : (acc j d t i : ℕ) (rest part after : List ℕ) → Part acc rest j → j < length ds → get_or ds j 0 ≡ d
      → part ≡ take d rest → after ≡ drop d rest → t ≡ prod part % 2 → i ≡ j + 1 → Part (bit_xor acc t) after i
  part_step acc j d t i rest part after v l e p q h n =
      let r : d ≤ length rest = part_room acc j d rest v l e in
      record {
        sums = sum_step ds xs acc j d t i rest part after v.sums l (omega arith) p q h n;
        room = rw (n, q) (omega (arith, total_next j d l e, v.room, length-drop d rest));
      }

-- the degrees of a triangle are a table
up_to-tab : (k : ℕ) → degrees_to k ≡ tab suc k
unfolding tab
up_to-tab zero = refl
up_to-tab (suc k) = ap (λ (l : List ℕ). l ++ suc k ∷ []) (up_to-tab k)

pub up_to-length : (k : ℕ) → length (degrees_to k) ≡ k
up_to-length k = ap length (up_to-tab k) ∙ tab-length suc k

pub up_to-at : (k j : ℕ) → j < k → get_or (degrees_to k) j 0 ≡ j + 1
up_to-at k j h = ap (λ (l : List ℕ). get_or l j 0) (up_to-tab k) ∙ tab-at suc k j h ∙ sym (add-one j)

-- Parts end to end.
sum_of-append : (ds es xs : List ℕ) → sum_of (ds ++ es) xs ≡ (sum_of ds xs + sum_of es (drop (total ds) xs)) % 2
unfolding sum_of total
sum_of-append [] es xs = omega (arith, sum_of-bit es xs)
sum_of-append (d ∷ ds) es xs =
    ap (λ (s : ℕ). (prod (take d xs) + s) % 2) (sum_of-append ds es (drop d xs) ∙ ap (λ (l : List ℕ). (sum_of ds (drop d xs) + sum_of es l) % 2) (drop-drop (total ds) d xs))
    ∙ regroup (prod (take d xs)) (sum_of ds (drop d xs)) (sum_of es (drop (d + total ds) xs))

-- the sums of two parts, of which the second begins where the first ends
pub join : (ds es xs : List ℕ) {a b at : ℕ} {ys : List ℕ} → total ds ≡ at → ys ≡ drop at xs → a ≡ sum_of ds xs → b ≡ sum_of es ys
    → bit_xor a b ≡ sum_of (ds ++ es) xs
join ds es xs {a} {b} {at} {ys} t e p q =
    let f : b ≡ sum_of es (drop (total ds) xs) = q ∙ ap (sum_of es) (e ∙ ap (λ (n : ℕ). drop n xs) (sym t)) in
    xor_bit a b (omega (arith, sum_of-bit ds xs)) (omega (arith, sum_of-bit es ys))
    ∙ rw (p, f) (sym (sum_of-append ds es xs))

-- A sum of monomials takes no variable behind its own.
sum_of-take : (ds xs : List ℕ) → sum_of ds (take (total ds) xs) ≡ sum_of ds xs
unfolding sum_of total
sum_of-take [] xs = refl
sum_of-take (d ∷ ds) xs =
    rw (take-take d (d + total ds) xs (omega arith), drop-take d (total ds) xs, sum_of-take ds (drop d xs))

-- The loop over n parts of the same degrees: acc is the sum of those before rest, and left are still to come.
module _ (ds : List ℕ) (n : ℕ) (xs : List ℕ) where
  pub record Parts (acc size : ℕ) (rest : List ℕ) : Type 0 where
    pub left : ℕ
    pub bit : acc < 2
    pub each : size ≡ total ds
    pub room : length rest ≡ left * total ds
    pub adds : (acc + sum_of (copies left ds) rest) % 2 ≡ sum_of (copies n ds) xs

  pub parts_start : (size end : ℕ) (rest : List ℕ) → size ≡ total ds → end ≡ n * total ds → end ≤ length xs → rest ≡ take end xs → Parts 0 size rest
  parts_start size end rest e f h r =
      let s : sum_of (copies n ds) rest ≡ sum_of (copies n ds) xs = rw (r, f, ← total-copies n ds) (sum_of-take (copies n ds) xs) in
      record {
        left = n;
        bit = omega arith;
        each = e;
        room = rw r (omega (arith, length-take end xs));
        adds = omega (arith, s, sum_of-bit (copies n ds) xs);
      }

  pub parts_step : (acc size t next : ℕ) (rest part after : List ℕ) → Parts acc size rest → 0 < size → next ≡ size → rest ≡ part ++ after
      → length part ≡ size → t ≡ sum_of ds part → Parts (bit_xor acc t) next after
  parts_step acc size t next rest part after v z w p q h = step v.left v.room v.adds
    where
      step : (left : ℕ) → length rest ≡ left * total ds → (acc + sum_of (copies left ds) rest) % 2 ≡ sum_of (copies n ds) xs → Parts (bit_xor acc t) next after
      step zero r e = absurd (omega (arith, r, v.each, ap length p, length-append part after))
      step (suc left) r e =
          let m : length part ≡ total ds = q ∙ v.each in
          let f : sum_of ds rest ≡ t = sym (sum_of-take ds rest) ∙ ap (sum_of ds) (rw p (take_at part after (total ds) m)) ∙ sym h in
          let a : drop (total ds) rest ≡ after = rw p (drop_at part after (total ds) m) in
          let s : sum_of (copies (suc left) ds) rest ≡ (t + sum_of (copies left ds) after) % 2 = rw (← f, ← a) (sum_of-append ds (copies left ds) rest) in
          let b : t < 2 = rw (← f) (sum_of-bit ds rest) in
          record {
            left = left;
            bit = rw (xor_bit acc t v.bit b) (omega arith);
            each = w ∙ v.each;
            room = omega (arith, r, m, suc-mul left (total ds), ap length p, length-append part after);
            adds = rw (xor_bit acc t v.bit b) (sym (regroup acc t (sum_of (copies left ds) after)) ∙ rw (← s) e);
          }

  pub parts_end : (acc size : ℕ) (rest : List ℕ) → Parts acc size rest → length rest < size → acc ≡ sum_of (copies n ds) xs
  unfolding sum_of
  parts_end acc size rest v l = last v.left v.room v.adds
    where
      last : (left : ℕ) → length rest ≡ left * total ds → (acc + sum_of (copies left ds) rest) % 2 ≡ sum_of (copies n ds) xs → acc ≡ sum_of (copies n ds) xs
      last zero r e = omega (arith, v.bit, e)
      last (suc left) r e = absurd (omega (arith, r, v.each, suc-mul left (total ds)))

-- parts of one monomial each
pub total-one : (d : ℕ) → total (d ∷ []) ≡ d
unfolding total
total-one d = omega arith

pub copies_one : (n d : ℕ) → copies n (d ∷ []) ≡ replicate n d
copies_one zero d = refl
copies_one (suc n) d = ap (λ (l : List ℕ). d ∷ l) (copies_one n d)

pub sum_of-one : (d : ℕ) (xs : List ℕ) → length xs ≡ d → prod xs % 2 ≡ sum_of (d ∷ []) xs
unfolding sum_of
sum_of-one d xs h = let e : take d xs ≡ xs = take_all d xs (omega arith) in rw e (omega arith)
