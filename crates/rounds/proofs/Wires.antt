-- The rounds' gates under any algebra are the circuit over that algebra.
use mathlib.Core.Path.{◌≡◌, refl, ap, ap₂, sym, ◌∙◌}
use mathlib.Core.List.{List, ◌∷◌, ◌++◌, map}
use Prim.Native.Nat.{ℕ, zero, suc, ◌+◌, ◌<◌}
use native.Mathlib.Omega.{arith}
use lib.ListN.{get_or}
use Rattle.netlist.specs.Net.{Alg, at}
use Rattle.netlist.specs.Glue.{up_from}
use Rattle.netlist.proofs.Glued.{get_or-map_lt}
use Rattle.kreyvium.specs.Kreyvium.{Registers, s_a, s_c, k0, v0}
use Rattle.rounds.proofs.Circuit.{sum1, sum2, sum3, gain1, gain2, gain3, out_a, round_a, rounds_a, added_a}
use Rattle.rounds.specs.Gates.{head_gates, out_gates, tail_gates, move_wires, gates_from, outs_from}
use Rattle.rounds.proofs.Lists.{Sized, map_registers, moved_sized, moved_eq, map-moved}
use Rattle.rounds.proofs.Runs.{Holds, holds_left, holds_right, holds_zero}

-- one round, over any list of wires E that carries its gates
module _ {X : Type 0} (A : Alg X) (E : List X) (w u : ℕ) (s : Registers ℕ) (z : Sized s)
    (h : Holds A E w (head_gates w s)) (g : Holds A E u (tail_gates w u s)) where
  abbrev S : Registers X
  S = map_registers (at A E) s

  in_a : (i : ℕ) → i < 93 → at A E (get_or s.a i 0) ≡ get_or (map (at A E) s.a) i A.none
  in_a i q = sym (get_or-map_lt (at A E) s.a i 0 A.none (omega (arith, z.a)))

  in_b : (i : ℕ) → i < 84 → at A E (get_or s.b i 0) ≡ get_or (map (at A E) s.b) i A.none
  in_b i q = sym (get_or-map_lt (at A E) s.b i 0 A.none (omega (arith, z.b)))

  in_c : (i : ℕ) → i < 111 → at A E (get_or s.c i 0) ≡ get_or (map (at A E) s.c) i A.none
  in_c i q = sym (get_or-map_lt (at A E) s.c i 0 A.none (omega (arith, z.c)))

  in_k : at A E (k0 0 s) ≡ k0 A.none S
  in_k = sym (get_or-map_lt (at A E) s.k 127 0 A.none (omega (arith, z.k)))

  in_v : at A E (v0 0 s) ≡ v0 A.none S
  in_v = sym (get_or-map_lt (at A E) s.v 127 0 A.none (omega (arith, z.v)))

  head0 : at A E w ≡ sum1 A S
  head0 = holds_zero A E w (head_gates w s) h (omega arith) ∙ ap₂ A.xor (in_a 65 (omega arith)) (in_a 92 (omega arith))

  head1 : at A E (w + 1) ≡ sum2 A S
  head1 = h 1 (omega arith) ∙ ap₂ A.xor (in_b 68 (omega arith)) (in_b 83 (omega arith))

  head2 : at A E (w + 2) ≡ A.xor (s_c A.none S 243) (s_c A.none S 288)
  head2 = h 2 (omega arith) ∙ ap₂ A.xor (in_c 65 (omega arith)) (in_c 110 (omega arith))

  head3 : at A E (w + 3) ≡ sum3 A S
  head3 = h 3 (omega arith) ∙ ap₂ A.xor head2 in_k

  and1 : at A E u ≡ A.and (s_a A.none S 91) (s_a A.none S 92)
  and1 = holds_zero A E u (tail_gates w u s) g (omega arith) ∙ ap₂ A.and (in_a 90 (omega arith)) (in_a 91 (omega arith))

  one : at A E (u + 3) ≡ gain1 A S
  unfolding gain1
  one =
      g 3 (omega arith) ∙ ap₂ A.xor
      (g 2 (omega arith) ∙ ap₂ A.xor (g 1 (omega arith) ∙ ap₂ A.xor head0 and1) (in_b 77 (omega arith)))
      in_v

  two : at A E (u + 6) ≡ gain2 A S
  unfolding gain2
  two =
      g 6 (omega arith) ∙ ap₂ A.xor
      (g 5 (omega arith) ∙ ap₂ A.xor head1 (g 4 (omega arith) ∙ ap₂ A.and (in_b 81 (omega arith)) (in_b 82 (omega arith))))
      (in_c 86 (omega arith))

  three : at A E (u + 9) ≡ gain3 A S
  unfolding gain3
  three =
      g 9 (omega arith) ∙ ap₂ A.xor
      (g 8 (omega arith) ∙ ap₂ A.xor head3 (g 7 (omega arith) ∙ ap₂ A.and (in_c 108 (omega arith)) (in_c 109 (omega arith))))
      (in_a 68 (omega arith))

  pub next_registers : map_registers (at A E) (move_wires u s) ≡ round_a A S
  unfolding move_wires round_a
  next_registers = map-moved (at A E) 0 A.none s (u + 9) (u + 3) (u + 6) z ∙ moved_eq A.none S three one two

  pub next_out : (t x : ℕ) → Holds A E t (out_gates w t x) → at A E (t + 2) ≡ out_a A S (at A E x)
  unfolding out_a
  next_out t x q =
      q 2 (omega arith) ∙ ap₂ A.xor
      (q 1 (omega arith) ∙ ap₂ A.xor (holds_zero A E t (out_gates w t x) q (omega arith) ∙ ap₂ A.xor head0 head1) head3)
      refl

pub move_sized : (u : ℕ) (s : Registers ℕ) → Sized s → Sized (move_wires u s)
unfolding move_wires
move_sized u s z = moved_sized 0 s (u + 9) (u + 3) (u + 6) z

module _ {X : Type 0} (A : Alg X) (E : List X) where
  pub from_circuit : (n m x w : ℕ) (s : Registers ℕ) → Sized s → Holds A E w (gates_from n m x w s)
      → map (at A E) (outs_from n m w) ≡ added_a A (map (at A E) (up_from x m)) (rounds_a A n (map_registers (at A E) s))
  unfolding gates_from outs_from added_a rounds_a
  from_circuit (suc n) m x w s z h =
      let rest = gates_from n m x (w + 14) (move_wires (w + 4) s) in
      let tail = tail_gates w (w + 4) s in
      let hh = holds_left A E w (head_gates w s) (tail ++ rest) h in
      let ht = holds_right A E w (head_gates w s) (tail ++ rest) h in
      let e : w + 4 + 10 ≡ w + 14 = omega arith in
      let hr : Holds A E (w + 14) rest = rw e at (holds_right A E (w + 4) tail rest ht) in
      from_circuit n m x (w + 14) (move_wires (w + 4) s) (move_sized (w + 4) s z) hr
      ∙ ap (λ (t : Registers X). added_a A (map (at A E) (up_from x m)) (rounds_a A n t)) (next_registers A E w (w + 4) s z hh (holds_left A E (w + 4) tail rest ht))
  from_circuit zero (suc m) x w s z h =
      let rest = gates_from zero m (suc x) (w + 17) (move_wires (w + 7) s) in
      let tail = tail_gates w (w + 7) s in
      let out = out_gates w (w + 4) x in
      let hh = holds_left A E w (head_gates w s) (out ++ (tail ++ rest)) h in
      let ho = holds_right A E w (head_gates w s) (out ++ (tail ++ rest)) h in
      let e3 : w + 4 + 3 ≡ w + 7 = omega arith in
      let ht : Holds A E (w + 7) (tail ++ rest) = rw e3 at (holds_right A E (w + 4) out (tail ++ rest) ho) in
      let e : w + 7 + 10 ≡ w + 17 = omega arith in
      let hr : Holds A E (w + 17) rest = rw e at (holds_right A E (w + 7) tail rest ht) in
      let htt = holds_left A E (w + 7) tail rest ht in
      let e2 : w + 4 + 2 ≡ w + 6 = omega arith in
      ap₂ ◌∷◌ (rw e2 at (next_out A E w (w + 7) s z hh htt (w + 4) x (holds_left A E (w + 4) out (tail ++ rest) ho)))
      (from_circuit zero m (suc x) (w + 17) (move_wires (w + 7) s) (move_sized (w + 7) s z) hr
      ∙ ap (λ (t : Registers X). added_a A (map (at A E) (up_from (suc x) m)) t) (next_registers A E w (w + 7) s z hh htt))
  from_circuit zero zero x w s z h = refl
