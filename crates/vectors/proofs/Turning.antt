-- A word's bits turned round one by one, and key and IV loaded so.
use mathlib.Core.Path.{◌≡◌, refl, ap, ap₂, sym, ◌∙◌}
use mathlib.Core.List.{List, [], ◌∷◌, ◌++◌, reverse, reverse_aux, reverse-append}
use Prim.Native.Nat.{ℕ, zero, suc, ◌+◌, ◌*◌, ◌-◌, ◌/◌, ◌%◌, ◌^◌, ◌≤◌, ◌<◌}
use native.Mathlib.Nat.{pow-suc}
use native.Mathlib.Numerals.{add-one}
use native.Mathlib.Omega.{arith}
use lib.Pow.{pow_mono}
use lib.ListN.{take, drop, replicate}
use Rattle.std.specs.Int.{reverse_bits_onto}
use Rattle.kreyvium.specs.Kreyvium.{Registers, loaded}
use Rattle.kreyvium.specs.Words.{bits}
use Rattle.kreyvium.proofs.Bits.{bits_cons}
use Rattle.kreyvium.proofs.Streams.{registers_eq}
use Rattle.vectors.specs.Reversed.{loaded_in_reverse}

-- The low i bits of x are turned and stand in done; the others are rest.
unfoldable pub Turned : ℕ → ℕ → ℕ → ℕ → Type 0
Turned x rest done i = reverse_aux (bits (64 - i) rest) (bits i done) ≡ reverse (bits 64 x)

none : (x : ℕ) → bits 0 x ≡ []
unfolding bits
none x = refl

first : (n x : ℕ) → x % 2 ∷ bits n (x / 2) ≡ bits (suc n) x
unfolding bits
first n x = refl

pub turn-start : (x : ℕ) → Turned x x 0 0
unfolding Turned
turn-start x = ap (reverse_aux (bits 64 x)) (none 0)

pub turn_step : (x rest done i : ℕ) → i < 64 → Turned x rest done i → Turned x (rest / 2) (done * 2 + rest % 2) (i + 1)
unfolding Turned
turn_step x rest done i h t =
    let fewer : 64 - (i + 1) ≡ 63 - i = omega arith in
    let more : suc (63 - i) ≡ 64 - i = omega arith in
    let low = bits_cons i done (rest % 2) (omega arith) in
    ap₂ reverse_aux (ap (λ (n : ℕ). bits n (rest / 2)) fewer) (ap (λ (n : ℕ). bits n (done * 2 + rest % 2)) (add-one i) ∙ low)
    ∙ ap (λ (l : List ℕ). reverse_aux l (bits i done)) (first (63 - i) rest ∙ ap (λ (n : ℕ). bits n rest) more)
    ∙ t

pub turn_end : (x rest done i : ℕ) → 64 ≤ i → i ≤ 64 → Turned x rest done i → bits 64 done ≡ reverse (bits 64 x)
unfolding Turned
turn_end x rest done i h k t =
    let e : i ≡ 64 = omega arith in
    ap (λ (l : List ℕ). reverse_aux l (bits 64 done)) (sym (none rest))
    ∙ ap (λ (n : ℕ). reverse_aux (bits (64 - n) rest) (bits n done)) (sym e)
    ∙ t

-- the library's own walk from there on
pub onto_turned : (x k rest done i : ℕ) → i + k ≡ 64 → Turned x rest done i → bits 64 (reverse_bits_onto k rest done) ≡ reverse (bits 64 x)
unfolding reverse_bits_onto
onto_turned x zero rest done i e t = turn_end x rest done i (omega arith) (omega arith) t
onto_turned x (suc k) rest done i e t =
    onto_turned x k (rest / 2) (done * 2 + rest % 2) (i + 1) (omega arith) (turn_step x rest done i (omega arith) t)

-- Two words turned, and in the other order, are a key or an IV in reverse.
pub both-turned : (x y x' y' : ℕ) → bits 64 x' ≡ reverse (bits 64 x) → bits 64 y' ≡ reverse (bits 64 y)
    → bits 64 y' ++ bits 64 x' ≡ reverse (bits 64 x ++ bits 64 y)
both-turned x y x' y' e f = ap₂ ◌++◌ f e ∙ sym (reverse-append (bits 64 x) (bits 64 y))

-- The registers of s, loaded from a key and an IV in reverse, with K* and IV* from those as they are.
pub load_reversed : (s r : Registers ℕ) (turnedKey turnedIv key iv : List ℕ) → turnedKey ≡ reverse key → turnedIv ≡ reverse iv → s ≡ loaded 0 1 turnedKey turnedIv
    → r ≡ record { a = s.a; b = s.b; c = s.c; k = key; v = iv } → r ≡ loaded_in_reverse key iv
unfolding loaded loaded_in_reverse
load_reversed s r turnedKey turnedIv key iv e f g h =
    h
    ∙ registers_eq
    (ap (λ (r : Registers ℕ). r.a) g ∙ ap (take 93) e)
    (ap (λ (r : Registers ℕ). r.b) g ∙ ap (take 84) f)
    (ap (λ (r : Registers ℕ). r.c) g ∙ ap (λ (l : List ℕ). drop 84 l ++ (replicate 66 1 ++ (0 ∷ []))) f)
    refl
    refl
