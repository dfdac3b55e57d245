-- On bits the circuit is the cipher's rounds, so the netlist deciphers.
use mathlib.Core.Path.{◌≡◌, refl, ap, ap₂, sym, ◌∙◌}
use mathlib.Core.List.{List, [], ◌∷◌, ◌++◌, map}
use Prim.Native.Nat.{ℕ, zero, suc, ◌+◌, ◌*◌, ◌%◌, ◌≤◌}
use native.Mathlib.Omega.{arith}
use native.Mathlib.Nat.{mod-add-mod, add-mod-mod}
use lib.ListN.{length}
use Rattle.answer.specs.Bits.{added}
use Rattle.netlist.specs.Net.{val_alg, eval}
use Rattle.netlist.proofs.Bits.{Bits}
use Rattle.kreyvium.specs.Kreyvium.{Registers, s_a, s_b, s_c, k0, t1, t2, t3, round_of, out_of, loaded, rounds, stream, stream_of}
use Rattle.rounds.proofs.Circuit.{sum1, sum2, sum3, gain1, gain2, gain3, out_a, round_a, rounds_a, added_a, ciphered_a}
use Rattle.rounds.specs.Gates.{bit_of, kreyvium_net}
use Rattle.rounds.proofs.Lists.{moved_eq}
use Rattle.rounds.proofs.Sound.{All, all_moved, all-loaded}
use Rattle.rounds.proofs.Net.{net_circuit}

abbrev Bit : ℕ → Type 0
Bit x = x ≤ 1

xor_sum : (a b : ℕ) → Bit a → Bit b → val_alg.xor a b ≡ (a + b) % 2
xor_sum zero zero h g = refl
xor_sum zero (suc zero) h g = refl
xor_sum (suc zero) zero h g = refl
xor_sum (suc zero) (suc zero) h g = refl
xor_sum zero (suc (suc b)) h g = absurd (omega arith)
xor_sum (suc zero) (suc (suc b)) h g = absurd (omega arith)
xor_sum (suc (suc a)) b h g = absurd (omega arith)

and_mul : (a b : ℕ) → Bit a → Bit b → val_alg.and a b ≡ a * b
and_mul zero b h g = omega arith
and_mul (suc zero) b h g = omega arith
and_mul (suc (suc a)) b h g = absurd (omega arith)

mul_bit : (a b : ℕ) → Bit a → Bit b → Bit (a * b)
mul_bit zero b h g = omega arith
mul_bit (suc zero) b h g = omega arith
mul_bit (suc (suc a)) b h g = absurd (omega arith)

-- a sum so far, and one bit or one sum more
more : (n b r : ℕ) → r ≡ n % 2 → Bit b → val_alg.xor r b ≡ (n + b) % 2
more n b r e h = xor_sum r b (omega arith) h ∙ ap (λ (k : ℕ). (k + b) % 2) e ∙ mod-add-mod n 2 b

both : (n m r q : ℕ) → r ≡ n % 2 → q ≡ m % 2 → val_alg.xor r q ≡ (n + m) % 2
both n m r q e f = more n q r e (omega arith) ∙ ap (λ (k : ℕ). (n + k) % 2) f ∙ add-mod-mod n m 2

-- a sum so far and a product
times : (n p q r : ℕ) → r ≡ n % 2 → Bit p → Bit q → val_alg.xor r (val_alg.and p q) ≡ (n + p * q) % 2
times n p q r e h g = ap (val_alg.xor r) (and_mul p q h g) ∙ more n (p * q) r e (mul_bit p q h g)

exchanged : (o x : ℕ) → (o + x) % 2 ≡ (x + o) % 2
exchanged o x = omega arith

module _ (s : Registers ℕ) (h : All Bit s) where
  head1 : sum1 val_alg s ≡ (s_a 0 s 66 + s_a 0 s 93) % 2
  head1 = xor_sum _ _ (h.a 65) (h.a 92)

  head2 : sum2 val_alg s ≡ (s_b 0 s 162 + s_b 0 s 177) % 2
  head2 = xor_sum _ _ (h.b 68) (h.b 83)

  head3 : sum3 val_alg s ≡ (s_c 0 s 243 + s_c 0 s 288 + k0 0 s) % 2
  head3 = more _ _ _ (xor_sum _ _ (h.c 65) (h.c 110)) (h.k 127)

  one : gain1 val_alg s ≡ t1 s
  unfolding gain1 t1
  one = more _ _ _ (more _ _ _ (times _ _ _ _ head1 (h.a 90) (h.a 91)) (h.b 77)) (h.v 127)

  two : gain2 val_alg s ≡ t2 s
  unfolding gain2 t2
  two = more _ _ _ (times _ _ _ _ head2 (h.b 81) (h.b 82)) (h.c 86)

  three : gain3 val_alg s ≡ t3 s
  unfolding gain3 t3
  three = more _ _ _ (times _ _ _ _ head3 (h.c 108) (h.c 109)) (h.a 68)

  round_same : round_a val_alg s ≡ round_of s
  unfolding round_a round_of
  round_same = moved_eq 0 s three one two

  out_same : (x : ℕ) → Bit x → out_a val_alg s x ≡ (x + out_of s) % 2
  unfolding out_a out_of
  out_same x g =
      let e = both _ _ _ _ (both _ _ _ _ head1 head2) head3 in
      xor_sum _ x (omega (arith, e)) g ∙ ap (λ (k : ℕ). (k + x) % 2) (e ∙ ap (λ (k : ℕ). k % 2) (omega arith)) ∙ exchanged _ x

  round_bits : All Bit (round_of s)
  unfolding round_of t1 t2 t3
  round_bits = all_moved Bit s (t3 s) (t1 s) (t2 s) (omega arith) (omega arith) (omega arith) (omega arith) h

rounds-same : (n : ℕ) (s : Registers ℕ) → All Bit s → rounds_a val_alg n s ≡ rounds n s
unfolding rounds_a rounds
rounds-same zero s h = refl
rounds-same (suc n) s h = ap (rounds_a val_alg n) (round_same s h) ∙ rounds-same n (round_of s) (round_bits s h)

rounds-bits : (n : ℕ) (s : Registers ℕ) → All Bit s → All Bit (rounds n s)
unfolding rounds
rounds-bits zero s h = h
rounds-bits (suc n) s h = rounds-bits n (round_of s) (round_bits s h)

added-same : (rec : List ℕ) (s : Registers ℕ) → Bits rec → All Bit s → added_a val_alg rec s ≡ added rec (stream (length rec) s)
unfolding added_a added stream
added-same [] s g h = refl
added-same (x ∷ rec) s g h =
    ap₂ ◌∷◌ (out_same s h x (g 0))
    (ap (added_a val_alg rec) (round_same s h) ∙ added-same rec (round_of s) (λ j. g (suc j)) (round_bits s h))

bits-same : (iv : List ℕ) → Bits iv → map (bit_of 0 1) iv ≡ iv
unfolding bit_of
bits-same [] h = refl
bits-same (zero ∷ iv) h = ap (λ (l : List ℕ). 0 ∷ l) (bits-same iv (λ j. h (suc j)))
bits-same (suc zero ∷ iv) h = ap (λ (l : List ℕ). 1 ∷ l) (bits-same iv (λ j. h (suc j)))
bits-same (suc (suc b) ∷ iv) h = absurd (omega (arith, h 0))

right : (key iv rec : List ℕ) → length key ≡ 128 → length iv ≡ 128 → Bits key → Bits iv → Bits rec
    → eval (kreyvium_net iv (length rec)) (key ++ rec) ≡ added rec (stream_of key iv (length rec))
unfolding ciphered_a stream_of
right key iv rec hk hv bk bv br =
    let s = loaded 0 1 key iv in
    let b : All Bit s = all-loaded Bit 0 1 key iv (omega arith) (omega arith) (omega arith) bk bv in
    net_circuit val_alg key iv rec hk hv
    ∙ ap (λ (l : List ℕ). added_a val_alg rec (rounds_a val_alg 1152 (loaded 0 1 key l))) (bits-same iv bv)
    ∙ ap (added_a val_alg rec) (rounds-same 1152 s b)
    ∙ added-same rec (rounds 1152 s) br (rounds-bits 1152 s b)

-- THE VALUE: on a key and a record, the netlist gives the record with the keystream of that key and this IV added
pub kreyvium_right : (key iv rec : List ℕ) (m : ℕ) → length key ≡ 128 → length iv ≡ 128 → length rec ≡ m → Bits key → Bits iv → Bits rec
    → eval (kreyvium_net iv m) (key ++ rec) ≡ added rec (stream_of key iv m)
kreyvium_right key iv rec m hk hv hr bk bv br = rw (sym hr) (right key iv rec hk hv bk bv br)
