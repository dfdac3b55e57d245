-- 64 rounds at one-round: the words that enter are what the rounds would bring in one by one.
use mathlib.Core.Path.{◌≡◌, refl, ap, sym, ◌∙◌, subst}
use mathlib.Core.List.{List}
use Prim.Native.Nat.{ℕ, zero, suc, ◌+◌, ◌*◌, ◌-◌, ◌%◌, ◌≤◌, ◌<◌}
use native.Mathlib.Omega.{arith}
use lib.ListN.{length, get_or}
use Rattle.kreyvium.specs.declared.State.{State}
use Rattle.kreyvium.specs.declared.Entry.{Entry}
use Rattle.kreyvium.specs.Kreyvium.{Registers, k0, v0, out_of, t1, t2, t3, push, moved, round_of, rounds, stream}
use Rattle.kreyvium.specs.Words.{bit, tops, reg, state_of}
use Rattle.kreyvium.specs.Early.{later, early, Right}
use Rattle.kreyvium.proofs.Bits.{odd_first}
use Rattle.kreyvium.proofs.Streams.{registers_eq, rounds_last, rounds_none, risen, tops-stream}
use Rattle.kreyvium.proofs.Windows.{leaves, length-reg, later_tap, got, got_none, got-more, got-first, got-all}

-- ---- the four sums of a round, of what they add
pub sum_out : {u u' v v' w w' x x' y y' z z' k k' : ℕ} → u ≡ u' → v ≡ v' → w ≡ w' → x ≡ x' → y ≡ y' → z ≡ z' → k ≡ k'
    → (u + v + w + x + y + z + k) % 2 ≡ (u' + v' + w' + x' + y' + z' + k') % 2
sum_out hu hv hw hx hy hz hk = cc

pub sum_one : {x x' y y' p p' q q' z z' v v' : ℕ} → x ≡ x' → y ≡ y' → p ≡ p' → q ≡ q' → z ≡ z' → v ≡ v'
    → (x + y + p * q + z + v) % 2 ≡ (x' + y' + p' * q' + z' + v') % 2
sum_one hx hy hp hq hz hv = cc

pub sum_two : {x x' y y' p p' q q' z z' : ℕ} → x ≡ x' → y ≡ y' → p ≡ p' → q ≡ q' → z ≡ z'
    → (x + y + p * q + z) % 2 ≡ (x' + y' + p' * q' + z') % 2
sum_two hx hy hp hq hz = cc

pub sum_three : {x x' y y' k k' p p' q q' z z' : ℕ} → x ≡ x' → y ≡ y' → k ≡ k' → p ≡ p' → q ≡ q' → z ≡ z'
    → (x + y + k + p * q + z) % 2 ≡ (x' + y' + k' + p' * q' + z') % 2
sum_three hx hy hk hp hq hz = cc

-- ---- and where the first two are there as one
lead : (x s a b c : ℕ) → x ≡ s % 2 → (x + a + b + c) % 2 ≡ (s + a + b + c) % 2
lead x s a b c e = grouped x ∙ odd_first x s (a + b + c) e ∙ sym (grouped s)
  where
    regroup : (y a b c : ℕ) → y + a + b + c ≡ y + (a + b + c)
    regroup y a b c = omega arith

    grouped : (y : ℕ) → (y + a + b + c) % 2 ≡ (y + (a + b + c)) % 2
    grouped y = ap (λ (n : ℕ). n % 2) (regroup y a b c)

pub pairs_out : {x y z k k' : ℕ} (s s' t t' u u' : ℕ) → x ≡ (s + s') % 2 → y ≡ (t + t') % 2 → z ≡ (u + u') % 2 → k ≡ k'
    → (x + y + z + k) % 2 ≡ (s + s' + t + t' + u + u' + k') % 2
pairs_out {x} {y} {z} {k} {k'} s s' t t' u u' e f g h =
    ap (λ (n : ℕ). (x + y + z + n) % 2) h
    ∙ lead x (s + s') y z k' e
    ∙ turned (s + s') y z
    ∙ lead y (t + t') z (s + s') k' f
    ∙ turned (t + t') z (s + s')
    ∙ lead z (u + u') (s + s') (t + t') k' g
    ∙ ap (λ (n : ℕ). n % 2) (regroup s s' t t' u u' k')
  where
    sums : (a b c : ℕ) → a + b + c ≡ b + c + a
    sums a b c = omega arith

    turned : (a b c : ℕ) → (a + b + c + k') % 2 ≡ (b + c + a + k') % 2
    turned a b c = ap (λ (n : ℕ). (n + k') % 2) (sums a b c)

    regroup : (s s' t t' u u' l : ℕ) → u + u' + (s + s') + (t + t') + l ≡ s + s' + t + t' + u + u' + l
    regroup s s' t t' u u' l = omega arith

pub pair_one : {x p p' q q' z z' v v' : ℕ} (s s' : ℕ) → x ≡ (s + s') % 2 → p ≡ p' → q ≡ q' → z ≡ z' → v ≡ v'
    → (x + p * q + z + v) % 2 ≡ (s + s' + p' * q' + z' + v') % 2
pair_one {x} {p} {p'} {q} {q'} {z} {z'} {v} {v'} s s' e hp hq hz hv =
    let m : (x + p * q + z + v) % 2 ≡ (x + p' * q' + z' + v') % 2 = cc in
    m ∙ lead x (s + s') (p' * q') z' v' e

pub pair_two : {x p p' q q' z z' : ℕ} (s s' : ℕ) → x ≡ (s + s') % 2 → p ≡ p' → q ≡ q' → z ≡ z'
    → (x + p * q + z) % 2 ≡ (s + s' + p' * q' + z') % 2
pair_two {x} {p} {p'} {q} {q'} {z} {z'} s s' e hp hq hz =
    let m : (x + p * q + z) % 2 ≡ (x + p' * q' + z') % 2 = cc in
    m ∙ odd_rest x (p' * q') z' ∙ odd_first x (s + s') (p' * q' + z') e ∙ sym (odd_rest (s + s') (p' * q') z')
  where
    odd_rest : (a b c : ℕ) → (a + b + c) % 2 ≡ (a + (b + c)) % 2
    odd_rest a b c = ap (λ (n : ℕ). n % 2) (omega arith)

pub pair_three : {x k k' p p' q q' z z' : ℕ} (s s' : ℕ) → x ≡ (s + s') % 2 → k ≡ k' → p ≡ p' → q ≡ q' → z ≡ z'
    → (x + k + p * q + z) % 2 ≡ (s + s' + k' + p' * q' + z') % 2
pair_three {x} {k} {k'} {p} {p'} {q} {q'} {z} {z'} s s' e hk hp hq hz =
    let m : (x + k + p * q + z) % 2 ≡ (x + k' + p' * q' + z') % 2 = cc in
    m ∙ lead x (s + s') k' (p' * q') z' e

-- ---- a round reads nothing below place 63
record Same (r s : Registers ℕ) : Type 0 where
  a : (p : ℕ) → 63 ≤ p → p < 93 → get_or r.a p 0 ≡ get_or s.a p 0
  b : (p : ℕ) → 63 ≤ p → p < 84 → get_or r.b p 0 ≡ get_or s.b p 0
  c : (p : ℕ) → 63 ≤ p → p < 111 → get_or r.c p 0 ≡ get_or s.c p 0
  k : (p : ℕ) → 63 ≤ p → p < 128 → get_or r.k p 0 ≡ get_or s.k p 0
  v : (p : ℕ) → 63 ≤ p → p < 128 → get_or r.v p 0 ≡ get_or s.v p 0

module _ (r s : Registers ℕ) (same : Same r s) where
  same_out : out_of r ≡ out_of s
  unfolding out_of
  same_out =
      sum_out
      (same.a 65 (omega arith) (omega arith))
      (same.a 92 (omega arith) (omega arith))
      (same.b 68 (omega arith) (omega arith))
      (same.b 83 (omega arith) (omega arith))
      (same.c 65 (omega arith) (omega arith))
      (same.c 110 (omega arith) (omega arith))
      (same.k 127 (omega arith) (omega arith))

  same-one : t1 r ≡ t1 s
  unfolding t1
  same-one =
      sum_one
      (same.a 65 (omega arith) (omega arith))
      (same.a 92 (omega arith) (omega arith))
      (same.a 90 (omega arith) (omega arith))
      (same.a 91 (omega arith) (omega arith))
      (same.b 77 (omega arith) (omega arith))
      (same.v 127 (omega arith) (omega arith))

  same_two : t2 r ≡ t2 s
  unfolding t2
  same_two =
      sum_two
      (same.b 68 (omega arith) (omega arith))
      (same.b 83 (omega arith) (omega arith))
      (same.b 81 (omega arith) (omega arith))
      (same.b 82 (omega arith) (omega arith))
      (same.c 86 (omega arith) (omega arith))

  same_three : t3 r ≡ t3 s
  unfolding t3
  same_three =
      sum_three
      (same.c 65 (omega arith) (omega arith))
      (same.c 110 (omega arith) (omega arith))
      (same.k 127 (omega arith) (omega arith))
      (same.c 108 (omega arith) (omega arith))
      (same.c 109 (omega arith) (omega arith))
      (same.a 68 (omega arith) (omega arith))

-- ---- K*0 and IV*0 of the next 64 rounds are the bits of the upper words
module _ (s : State) (i : ℕ) (h : i < 64) where
  pub early_key : k0 0 (early s i) ≡ bit s.k.hi i
  unfolding early
  early_key = leaves i s.k h

  pub early-iv : v0 0 (early s i) ≡ bit s.v.hi i
  unfolding early
  early-iv = leaves i s.v h

-- ---- the next 64 rounds: what their taps read is in the registers now
-- of one register
taps : (one : Registers ℕ → List ℕ) (x : Registers ℕ → ℕ) → ((s : Registers ℕ) → one (round_of s) ≡ push (x s) (one s))
    → (s : Registers ℕ) (m : ℕ) → length (one s) ≡ m
    → (n i : ℕ) → n + i ≡ 63 → (p : ℕ) → 63 ≤ p → p < m → get_or (one (rounds n s)) p 0 ≡ get_or (later i (one s)) p 0
taps one x enters s m e n i q p l u =
    let d : p ≡ n + (p - n) = omega arith in
    ap (λ (j : ℕ). get_or (one (rounds n s)) j 0) d
    ∙ risen one x enters n (p - n) s (rw (← d, e) u)
    ∙ sym (later_tap n i p (one s) q l)

module _ (s : State) where
  rounds-same : (n i : ℕ) → n + i ≡ 63 → Same (rounds n (state_of s)) (early s i)
  unfolding early state_of round_of moved
  rounds-same n i q = record {
    a = taps (λ r. r.a) t3 (λ r. refl) (state_of s) 93 (length-reg 93 s.a (omega arith)) n i q;
    b = taps (λ r. r.b) t1 (λ r. refl) (state_of s) 84 (length-reg 84 s.b (omega arith)) n i q;
    c = taps (λ r. r.c) t2 (λ r. refl) (state_of s) 111 (length-reg 111 s.c (omega arith)) n i q;
    k = taps (λ r. r.k) (k0 0) (λ r. refl) (state_of s) 128 (length-reg 128 s.k (omega arith)) n i q;
    v = taps (λ r. r.v) (v0 0) (λ r. refl) (state_of s) 128 (length-reg 128 s.v (omega arith)) n i q;
  }

  -- what comes out of them
  pub block_out : (z : ℕ) → ((i : ℕ) → i < 64 → bit z i ≡ out_of (early s i)) → (n : ℕ) → n ≤ 64 → tops n z ≡ stream n (state_of s)
  block_out z e =
      tops-stream z (state_of s) (λ n h. e (63 - n) (omega arith) ∙ sym (same_out _ _ (rounds-same n (63 - n) (omega arith))))

-- ---- n rounds, for n up to 64
module _ (s : State) (e : Entry) where
  -- the registers 64 - i rounds on
  unfoldable pub at : ℕ → Registers ℕ
  at i = record {
    a = got i 93 e.a s.a;
    b = got i 84 e.b s.b;
    c = got i 111 e.c s.c;
    k = got i 128 s.k.hi s.k;
    v = got i 128 s.v.hi s.v;
  }

  at_none : state_of s ≡ at 64
  unfolding at state_of
  at_none =
      registers_eq
      (got_none _ _ _ (omega arith))
      (got_none _ _ _ (omega arith))
      (got_none _ _ _ (omega arith))
      (got_none _ _ _ (omega arith))
      (got_none _ _ _ (omega arith))

  module _ (r : Right s e) where
    at_next : (n i : ℕ) → n + suc i ≡ 64 → rounds n (state_of s) ≡ at (suc i) → rounds (suc n) (state_of s) ≡ at i
    unfolding round_of moved at
    at_next n i q g =
        let h : i < 64 = omega arith in
        let same : Same (at (suc i)) (early s i) = subst (λ (x : Registers ℕ). Same x (early s i)) g (rounds-same s n i (omega arith)) in
        rounds_last n (state_of s)
        ∙ ap round_of g
        ∙ registers_eq
        (got-more i 93 e.a _ s.a h (omega arith) (same_three _ _ same ∙ sym (r.a i h)))
        (got-more i 84 e.b _ s.b h (omega arith) (same-one _ _ same ∙ sym (r.b i h)))
        (got-more i 111 e.c _ s.c h (omega arith) (same_two _ _ same ∙ sym (r.c i h)))
        (got-more i 128 s.k.hi _ s.k h (omega arith) (same.k 127 (omega arith) (omega arith) ∙ early_key s i h))
        (got-more i 128 s.v.hi _ s.v h (omega arith) (same.v 127 (omega arith) (omega arith) ∙ early-iv s i h))

    at-rounds : (n i : ℕ) → n + i ≡ 64 → rounds n (state_of s) ≡ at i
    at-rounds zero i q = let f : 64 ≡ i = omega arith in sym (rounds_none (state_of s)) ∙ at_none ∙ ap at f
    at-rounds (suc n) i q = at_next n i (omega arith) (at-rounds n (suc i) (omega arith))

    -- 64 rounds
    pub block_next : state_of (record {
      a = record { lo = e.a; hi = s.a.lo };
      b = record { lo = e.b; hi = s.b.lo };
      c = record { lo = e.c; hi = s.c.lo };
      k = record { lo = s.k.hi; hi = s.k.lo };
      v = record { lo = s.v.hi; hi = s.v.lo };
    }) ≡ rounds 64 (state_of s)
    unfolding at state_of
    block_next =
        sym
        (at-rounds 64 0 refl
        ∙ registers_eq
        (got-all 93 e.a s.a (omega arith))
        (got-all 84 e.b s.b (omega arith))
        (got-all 111 e.c s.c (omega arith))
        (got-all 128 s.k.hi s.k (omega arith))
        (got-all 128 s.v.hi s.v (omega arith)))

    -- one round: of each word that enters, the bit at place 63
    pub one_round : ◌≡◌ {A = Registers ℕ} (record {
      a = push (bit e.a 63) (reg 93 s.a);
      b = push (bit e.b 63) (reg 84 s.b);
      c = push (bit e.c 63) (reg 111 s.c);
      k = push (bit s.k.hi 63) (reg 128 s.k);
      v = push (bit s.v.hi 63) (reg 128 s.v);
    }) (round_of (state_of s))
    unfolding at rounds
    one_round =
        registers_eq
        (got-first 93 e.a s.a (omega arith))
        (got-first 84 e.b s.b (omega arith))
        (got-first 111 e.c s.c (omega arith))
        (got-first 128 s.k.hi s.k (omega arith))
        (got-first 128 s.v.hi s.v (omega arith))
        ∙ sym (at-rounds 1 63 refl)
