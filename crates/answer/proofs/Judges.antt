-- Laws of the judges that calls share: what done tells of each, what gives it, and what code that judges leans on.
use Prim.Native.Nat.{ℕ, zero, suc, ◌+◌, ◌<◌, ◌≤◌}
use mathlib.Core.Bool.{Bool, false, not}
use mathlib.Core.Path.{◌≡◌, sym, ap}
use mathlib.Core.List.{List, [], ◌∷◌}
use native.Mathlib.Decide.{dec_le}
use native.Mathlib.Omega.{arith}
use lib.Bits.{or_add_and, and_le_l, and_le_r}
use lib.ListN.{length, get_or}
use borrow.Author.Tests.{eq-eqb, eqb-true, not-false, lt-ltb, le-ltb, ltb-false}
use Rattle.std.specs.Prelude.{Ok}
use Rattle.answer.specs.declared.Reason.{Reason}
use Rattle.answer.specs.declared.Reason.TheVariants.{Length, Bit, Room}
use Rattle.answer.specs.Answers.{refused, refuse}
use Rattle.answer.specs.First.{first, Scan}
use Rattle.answer.specs.Judges.{length_answer, first_answer, room_answer}
use Rattle.answer.specs.Bits.{above_one, bits_answer, or_all}
use Rattle.answer.proofs.Rows.{refuse_done, refuse_not}
use Rattle.answer.proofs.Search.{scan_hit, scan_miss, first_none, none_below}

-- ---- the first place at which a test holds

-- for code that found it at place r
pub first_stop : (n : Reason) (l : ℕ) (p : ℕ → Bool) (s : List ℕ) (r : ℕ) → r ≡ first p (length s) → r < length s → refused n l r ≡ first_answer n l p s
unfolding first_answer refuse
first_stop n l p s r e h = rw (← e, lt-ltb r (length s) h)

pub first_go : (n : Reason) (l : ℕ) (p : ℕ → Bool) (s : List ℕ) (r : ℕ) → r ≡ first p (length s) → length s ≤ r → first_answer n l p s ≡ Ok tt
unfolding first_answer refuse
first_go n l p s r e h = rw (← e, le-ltb r (length s) h)

pub first_done_at : (n : Reason) (l : ℕ) (p : ℕ → Bool) (s : List ℕ) → first_answer n l p s ≡ Ok tt → (k : ℕ) → k < length s → p k ≡ false
unfolding first_answer
first_done_at n l p s e k h = none_below p (length s) k (refuse_done n l _ _ e) h

pub done_first : (n : Reason) (l : ℕ) (p : ℕ → Bool) (s : List ℕ) → ((k : ℕ) → k < length s → p k ≡ false) → first_answer n l p s ≡ Ok tt
done_first n l p s h = first_go n l p s (length s) (sym (first_none p (length s) h)) (omega arith)

-- ---- lengths and room

pub length_done : (l len n : ℕ) → length_answer l len n ≡ Ok tt → len ≡ n
unfolding length_answer
length_done l len n e = eqb-true len n (not-false _ (refuse_done Length l len _ e))

pub done_length : (l len n : ℕ) → len ≡ n → length_answer l len n ≡ Ok tt
unfolding length_answer
done_length l len n e = refuse_not Length l len (ap not (eq-eqb len n e))

pub room_done : (l len n : ℕ) → room_answer l len n ≡ Ok tt → n ≤ len
unfolding room_answer
room_done l len n e = ltb-false len n (refuse_done Room l len _ e)

pub done_room : (l len n : ℕ) → n ≤ len → room_answer l len n ≡ Ok tt
unfolding room_answer
done_room l len n h = refuse_not Room l len (le-ltb len n h)

-- ---- bits

-- the bits of a list; nothing stands past its end
pub bits-within : (v : List ℕ) → ((i : ℕ) → i < length v → get_or v i 0 ≤ 1) → (i : ℕ) → get_or v i 0 ≤ 1
bits-within [] h i = omega arith
bits-within (b ∷ v) h zero = h 0 (omega arith)
bits-within (b ∷ v) h (suc i) = bits-within v (λ k e. h (suc k) (omega arith)) i

-- A list judged for 4 is done exactly if each of its bytes is a bit.
pub bits_done : (l : ℕ) (s : List ℕ) → bits_answer l s ≡ Ok tt → (k : ℕ) → k < length s → get_or s k 0 ≤ 1
unfolding bits_answer above_one
bits_done l s e k h = ltb-false 1 (get_or s k 0) (first_done_at Bit l (above_one s) s e k h)

pub done_bits : (l : ℕ) (s : List ℕ) → ((k : ℕ) → k < length s → get_or s k 0 ≤ 1) → bits_answer l s ≡ Ok tt
unfolding bits_answer above_one
done_bits l s h = done_first Bit l (above_one s) s (λ k m. le-ltb 1 (get_or s k 0) (h k m))

-- no byte is above all of them or'ed together
pub or_above : (s : List ℕ) (n k : ℕ) → k < n → get_or s k 0 ≤ or_all s n
unfolding or_all
or_above s zero k h = absurd (omega arith)
or_above s (suc n) k h =
    let a = or_all s n in
    let b = get_or s n 0 in
    elim (dec_le n k) [
      | yes q ↦ (let z : k ≡ n = omega arith in rw z (omega (arith, or_add_and a b, and_le_l a b)))
      | no q ↦ omega (arith, or_above s n k (omega arith), or_add_and a b, and_le_r a b)
    ]

-- for a walk that looks for a byte that is no bit: it stands at one, or at a bit
pub no_bit_hit : (s : List ℕ) (i : ℕ) → Scan (above_one s) (length s) i → i < length s → 1 < get_or s i 0 → i ≡ first (above_one s) (length s)
unfolding above_one
no_bit_hit s i v l h = scan_hit (above_one s) _ _ v l (lt-ltb _ _ h)

pub no_bit_miss : (s : List ℕ) (i : ℕ) → Scan (above_one s) (length s) i → i < length s → get_or s i 0 ≤ 1 → Scan (above_one s) (length s) (i + 1)
unfolding above_one
no_bit_miss s i v l h = scan_miss (above_one s) _ _ v l (le-ltb _ _ h)
