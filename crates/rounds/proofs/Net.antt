-- The whole netlist under any algebra.
use mathlib.Core.Path.{◌≡◌, refl, ap, ap₂, ◌∙◌}
use mathlib.Core.List.{List, [], ◌∷◌, ◌++◌, map}
use Prim.Native.Nat.{ℕ, zero, suc, ◌+◌, ◌<◌}
use native.Mathlib.Omega.{arith}
use lib.ListN.{length, get_or, length-append, length-map, get_or-append}
use lib.Seq.{get_or-append-add}
use Rattle.netlist.specs.declared.gate.Gate.TheVariants.{Zero, One}
use Rattle.netlist.specs.Net.{Alg, at, run, outs_of}
use Rattle.netlist.specs.Glue.{up_from}
use Rattle.netlist.proofs.Glued.{up_from-length}
use Rattle.netlist.proofs.Sim.{run_keeps}
use Rattle.kreyvium.specs.Kreyvium.{loaded}
use Rattle.rounds.proofs.Circuit.{rounds_a, added_a, ciphered_a}
use Rattle.rounds.specs.Gates.{bit_of, gates_from, start_wires, kreyvium_gates, kreyvium_net}
use Rattle.rounds.proofs.Lists.{Sized, map_registers, loaded_sized, map-bits, map-loaded}
use Rattle.rounds.proofs.Runs.{Holds, run_holds, holds_right}
use Rattle.rounds.proofs.Wires.{from_circuit}
use Rattle.rounds.proofs.Sound.{gates_wired}

-- reading the wires k, k + 1, ..
map_up : {X : Type 0} (f : ℕ → X) (l : List X) (d : X) (k n : ℕ) → length l ≡ n → ((i : ℕ) → i < length l → f (k + i) ≡ get_or l i d) → map f (up_from k n) ≡ l
map_up f [] d k zero q h = refl
map_up f [] d k (suc n) q h = absurd (omega arith)
map_up f (x ∷ l) d k zero q h = absurd (omega arith)
map_up f (x ∷ l) d k (suc n) p h =
    ap₂ ◌∷◌
    (let e : k + 0 ≡ k = omega arith in rw e at (h 0 (omega arith)))
    (map_up f l d (suc k) n (omega arith) (λ i q. let e : suc k + i ≡ k + suc i = omega arith in rw e (h (suc i) (omega arith))))

pub start_sized : (iv : List ℕ) (m : ℕ) → length iv ≡ 128 → Sized (start_wires iv m)
unfolding start_wires
start_sized iv m h =
    loaded_sized (128 + m) (129 + m) (up_from 0 128) (map (bit_of (128 + m) (129 + m)) iv) (up_from-length 0 128)
    (length-map iv (bit_of (128 + m) (129 + m)) ∙ h)

module _ {X : Type 0} (A : Alg X) (key : List X) (iv : List ℕ) (e : List X) (hk : length key ≡ 128) (hv : length iv ≡ 128) where
  abbrev M : ℕ
  M = length e

  abbrev E : List X
  E = run A (key ++ e) (kreyvium_gates iv M)

  ins : length (key ++ e) ≡ 128 + M
  ins = length-append key e ∙ ap (λ (n : ℕ). n + M) hk

  holds : Holds A E (128 + M) (kreyvium_gates iv M)
  holds = rw ins at (run_holds A (key ++ e) (kreyvium_gates iv M) (rw ins (gates_wired iv M)))

  zero_wire : at A E (128 + M) ≡ A.zer
  unfolding kreyvium_gates
  zero_wire = let q : 128 + M + 0 ≡ 128 + M = omega arith in rw q at (holds 0 (omega arith))

  one_wire : at A E (129 + M) ≡ A.one
  unfolding kreyvium_gates
  one_wire = let q : 128 + M + 1 ≡ 129 + M = omega arith in rw q at (holds 1 (omega arith))

  rest_holds : Holds A E (130 + M) (gates_from 1152 M 128 (130 + M) (start_wires iv M))
  unfolding kreyvium_gates
  rest_holds = let q : 128 + M + 2 ≡ 130 + M = omega arith in
      rw q at (holds_right A E (128 + M) (Zero ∷ One ∷ []) (gates_from 1152 M 128 (130 + M) (start_wires iv M)) holds)

  key_wires : map (at A E) (up_from 0 128) ≡ key
  key_wires = map_up (at A E) key A.none 0 128 hk (λ i q.
      let z : 0 + i ≡ i = omega arith in
      rw z (run_keeps A (key ++ e) (kreyvium_gates iv M) i (omega (arith, ins)) ∙ get_or-append key e A.none i q))

  record_wires : map (at A E) (up_from 128 M) ≡ e
  record_wires = map_up (at A E) e A.none 128 M refl (λ i q.
      run_keeps A (key ++ e) (kreyvium_gates iv M) (128 + i) (omega (arith, ins))
      ∙ (let z : 128 + i ≡ length key + i = omega arith in rw z (get_or-append-add key e i A.none)))

  starts : map_registers (at A E) (start_wires iv M) ≡ loaded A.zer A.one key (map (bit_of A.zer A.one) iv)
  unfolding start_wires
  starts =
      map-loaded (at A E) (128 + M) (129 + M) (up_from 0 128) (map (bit_of (128 + M) (129 + M)) iv)
      ∙ (λ i. loaded (zero_wire i) (one_wire i) (key_wires i)
      (map-bits (at A E) (128 + M) (129 + M) iv i))
      ∙ (λ i. loaded A.zer A.one key (map (bit_of (zero_wire i) (one_wire i)) iv))

  pub net_circuit : outs_of A (kreyvium_net iv M) (key ++ e) ≡ ciphered_a A key iv e
  unfolding kreyvium_net ciphered_a
  net_circuit =
      from_circuit A E 1152 M 128 (130 + M) (start_wires iv M) (start_sized iv M hv) rest_holds
      ∙ (λ i. added_a A (record_wires i) (rounds_a A 1152 (starts i)))
