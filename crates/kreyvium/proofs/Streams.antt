-- Rounds in a row, and the keystream: its length, its bits, its front.
use mathlib.Core.Path.{◌≡◌, refl, ap, sym, ◌∙◌}
use mathlib.Core.List.{List, [], ◌∷◌, ◌++◌}
use Prim.Native.Nat.{ℕ, zero, suc, ◌+◌, ◌*◌, ◌-◌, ◌/◌, ◌%◌, ◌^◌, ◌≤◌, ◌<◌}
use native.Mathlib.Nat.{suc-add, not-suc-le-zero, le_of_suc-le-suc}
use native.Mathlib.Omega.{arith}
use lib.ListN.{length, take, get_or}
use lib.Seq.{get_or-take, length-take-le}
use Rattle.kreyvium.specs.Kreyvium.{Registers, out_of, push, round_of, rounds, stream, stream_of}
use Rattle.kreyvium.specs.Words.{bit, tops}

pub registers_eq : {X : Type 0} {a a' b b' c c' k k' v v' : List X} → a ≡ a' → b ≡ b' → c ≡ c' → k ≡ k' → v ≡ v'
    → ◌≡◌ {A = Registers X} (record { a = a; b = b; c = c; k = k; v = v }) (record { a = a'; b = b'; c = c'; k = k'; v = v' })
registers_eq p q r s t = cc

-- ---- rounds in a row
pub rounds_add : (m n : ℕ) (s : Registers ℕ) → rounds n (rounds m s) ≡ rounds (m + n) s
unfolding rounds
rounds_add zero n s = let e : 0 + n ≡ n = omega arith in rw e
rounds_add (suc m) n s = rw (suc-add m n) (rounds_add m n (round_of s))

pub rounds_last : (n : ℕ) (s : Registers ℕ) → rounds (suc n) s ≡ round_of (rounds n s)
unfolding rounds
rounds_last zero s = refl
rounds_last (suc n) s = rounds_last n (round_of s)

pub rounds_none : (s : Registers ℕ) → s ≡ rounds 0 s
unfolding rounds
rounds_none s = refl

-- blocks of 64 rounds, two a turn
pub blocks_more : (i : ℕ) (s : Registers ℕ) → rounds 64 (rounds 64 (rounds (128 * i) s)) ≡ rounds (128 * (i + 1)) s
blocks_more i s =
    let e : 128 * i + 64 + 64 ≡ 128 * (i + 1) = omega arith in
    ap (rounds 64) (rounds_add (128 * i) 64 s) ∙ rounds_add (128 * i + 64) 64 s ∙ ap (λ (n : ℕ). rounds n s) e

-- ---- a register that bits enter: what stands at a place moves up
push-length : (x : ℕ) (r : List ℕ) → length (push x r) ≡ length r
unfolding push
push-length x r = length-take-le (length r) (x ∷ r) (omega arith)

push_at : (x p : ℕ) (r : List ℕ) → suc p < length r → get_or (push x r) (suc p) 0 ≡ get_or r p 0
unfolding push
push_at x p r h = get_or-take (length r) (x ∷ r) (suc p) 0 h

-- one register of all, that x enters in a round
module _ (one : Registers ℕ → List ℕ) (x : Registers ℕ → ℕ) (enters : (s : Registers ℕ) → one (round_of s) ≡ push (x s) (one s)) where
  pub risen : (n p : ℕ) (s : Registers ℕ) → n + p < length (one s) → get_or (one (rounds n s)) (n + p) 0 ≡ get_or (one s) p 0
  unfolding rounds
  risen zero p s h = let e : 0 + p ≡ p = omega arith in rw e
  risen (suc n) p s h =
      let e : suc n + p ≡ n + suc p = omega arith in
      let l : length (one (round_of s)) ≡ length (one s) = ap length (enters s) ∙ push-length (x s) (one s) in
      ap (λ (j : ℕ). get_or (one (rounds n (round_of s))) j 0) e
      ∙ risen n (suc p) (round_of s) (rw (← e, l) h)
      ∙ ap (λ (r : List ℕ). get_or r (suc p) 0) (enters s)
      ∙ push_at (x s) p (one s) (omega arith)

-- ---- the outputs of n rounds
pub stream_last : (n : ℕ) (s : Registers ℕ) → stream (suc n) s ≡ stream n s ++ (out_of (rounds n s) ∷ [])
unfolding stream rounds
stream_last zero s = refl
stream_last (suc n) s = ap (λ (l : List ℕ). out_of s ∷ l) (stream_last n (round_of s))

-- a word whose bits from place 63 down are the outputs
pub tops-stream : (z : ℕ) (s : Registers ℕ) → ((n : ℕ) → n < 64 → bit z (63 - n) ≡ out_of (rounds n s)) → (n : ℕ) → n ≤ 64 → tops n z ≡ stream n s
unfolding tops stream
tops-stream z s e zero h = refl
tops-stream z s e (suc n) h =
    ap (λ (b : ℕ). tops n z ++ (b ∷ [])) (e n (omega arith))
    ∙ ap (λ (l : List ℕ). l ++ (out_of (rounds n s) ∷ [])) (tops-stream z s e n (omega arith))
    ∙ sym (stream_last n s)

-- and the first of them
pub first_out : (z : ℕ) (s : Registers ℕ) → z < 2 ^ 64 → tops 1 z ≡ stream 1 s → z / 2 ^ 63 ≡ out_of s
unfolding tops stream bit
first_out z s h e =
    let q : z / 2 ^ 63 ≡ z / 2 ^ 63 % 2 = omega arith in
    q ∙ ap (λ (l : List ℕ). get_or l 0 0) e

pub stream-length : (n : ℕ) (s : Registers ℕ) → length (stream n s) ≡ n
unfolding stream
stream-length zero s = refl
stream-length (suc n) s = ap suc (stream-length n (round_of s))

pub out_small : (s : Registers ℕ) → out_of s ≤ 1
unfolding out_of
out_small s = odd _
  where
    odd : (x : ℕ) → x % 2 ≤ 1
    odd x = omega arith

pub stream_small : (n : ℕ) (s : Registers ℕ) (i : ℕ) → get_or (stream n s) i 0 ≤ 1
unfolding stream
stream_small zero s zero = omega arith
stream_small zero s (suc i) = omega arith
stream_small (suc n) s zero = out_small s
stream_small (suc n) s (suc i) = stream_small n (round_of s) i

pub stream_at : (n : ℕ) (s : Registers ℕ) (i : ℕ) → i < n → get_or (stream n s) i 0 ≡ out_of (rounds i s)
unfolding stream rounds
stream_at zero s i h = absurd (not-suc-le-zero h)
stream_at (suc n) s zero h = refl
stream_at (suc n) s (suc i) h = stream_at n (round_of s) i (le_of_suc-le-suc h)

-- a shorter stream is a front of a longer one
pub stream-take : (n m : ℕ) (s : Registers ℕ) → n ≤ m → take n (stream m s) ≡ stream n s
unfolding stream
stream-take zero m s h = refl
stream-take (suc n) zero s h = absurd (not-suc-le-zero h)
stream-take (suc n) (suc m) s h = ap (λ (l : List ℕ). out_of s ∷ l) (stream-take n m (round_of s) (le_of_suc-le-suc h))

-- ---- the keystream
module _ (key iv : List ℕ) where
  pub stream_of-length : (m : ℕ) → length (stream_of key iv m) ≡ m
  unfolding stream_of
  stream_of-length m = stream-length m _
