-- Kreyvium's rounds one after the other, and their output bits drawn into a word.
use mathlib.Core.Path.{◌≡◌, ap, sym, ◌∙◌}
use mathlib.Core.List.{List}
use Prim.Native.Nat.{ℕ, zero, suc, ◌+◌, ◌*◌, ◌-◌, ◌^◌, ◌<◌, ◌≤◌}
use native.Mathlib.Nat.{pow-suc}
use native.Mathlib.Numerals.{add-one}
use native.Mathlib.Omega.{arith}
use lib.ListN.{get_or}
use lib.Pow.{pow_mono}
use Rattle.kreyvium.specs.Kreyvium.{Registers, out_of, round_of, rounds, stream}
use Rattle.kreyvium.specs.Words.{bit, tops}
use Rattle.kreyvium.proofs.Bits.{bits_cons, get_d_bits}
use Rattle.kreyvium.proofs.Streams.{rounds_last, out_small, tops-stream}

pub rounds-more : (i : ℕ) (s : Registers ℕ) → round_of (rounds i s) ≡ rounds (i + 1) s
rounds-more i s = sym (rounds_last i s) ∙ ap (λ (n : ℕ). rounds n s) (sym (add-one i))

-- z has the outputs of i rounds, the first as the highest of i bits
unfoldable pub Drawn : ℕ → ℕ → Registers ℕ → Type 0
Drawn i z s = (j k : ℕ) → suc (j + k) ≡ i → bit z k ≡ out_of (rounds j s)

pub drawn_none : (s : Registers ℕ) → Drawn 0 0 s
unfolding Drawn
drawn_none s j k e = absurd (omega arith)

-- a bit enters below the others
bit-first : (z b : ℕ) → b ≤ 1 → bit (z * 2 + b) 0 ≡ b
bit-first z b h = sym (get_d_bits 1 (z * 2 + b) 0 (omega arith)) ∙ ap (λ (l : List ℕ). get_or l 0 0) (bits_cons 0 z b h)

bit-above : (z b k : ℕ) → b ≤ 1 → bit (z * 2 + b) (suc k) ≡ bit z k
bit-above z b k h =
    sym (get_d_bits (suc (suc k)) (z * 2 + b) (suc k) (omega arith))
    ∙ ap (λ (l : List ℕ). get_or l (suc k) 0) (bits_cons (suc k) z b h)
    ∙ get_d_bits (suc k) z k (omega arith)

pub drawn_more : (i z b : ℕ) (s : Registers ℕ) → b ≡ out_of (rounds i s) → Drawn i z s → Drawn (i + 1) (z * 2 + b) s
unfolding Drawn
drawn_more i z b s e d j zero q =
    let same : i ≡ j = omega arith in
    bit-first z b (rw e (out_small (rounds i s))) ∙ e ∙ ap (λ (n : ℕ). out_of (rounds n s)) same
drawn_more i z b s e d j (suc k) q = bit-above z b k (rw e (out_small (rounds i s))) ∙ d j k (omega arith)

pub drawn_all : (z : ℕ) (s : Registers ℕ) → Drawn 64 z s → (n : ℕ) → n ≤ 64 → tops n z ≡ stream n s
unfolding Drawn
drawn_all z s d = tops-stream z s (λ n h. d n (63 - n) (omega arith))

-- a word that takes in one bit more
pub turn_small : (done b i : ℕ) → done < 2 ^ i → b ≤ 1 → done * 2 + b < 2 ^ (i + 1)
turn_small done b i h k = rw (add-one i, pow-suc) (omega arith)

pub turn_room : (done i : ℕ) → i < 64 → done < 2 ^ i → done < 2 ^ 63
turn_room done i h k = omega (arith, k, pow_mono {i = i} {j = 63} (omega arith))
