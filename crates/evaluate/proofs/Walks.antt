-- The walks, step by step, and what they make of a sound netlist.
use Prim.Native.Nat.{ℕ, ◌+◌, ◌<◌, ◌≤◌}
use mathlib.Core.Path.{◌≡◌, sym, ap, ◌∙◌}
use mathlib.Core.List.{List, [], ◌∷◌, map}
use native.Mathlib.Omega.{arith}
use lib.ListN.{length, get_or, set, take, drop, length-take, take-append-drop}
use lib.Seq.{length-take-le, get_or-drop, get_or-take}
use Rattle.answer.specs.Fronts.{over}
use Rattle.answer.proofs.Over.{over_next, over-at, length_over, take-over, over-over}
use Rattle.netlist.specs.declared.gate.Gate.{Gate}
use Rattle.netlist.specs.Net.{Uses, at, step, run, val_alg, values, eval}
use Rattle.netlist.specs.Words.{header_words, inputs_of, gates_of, outputs_of, gate_place, gate_at, gates_at, net_of}
use Rattle.netlist.proofs.Gates.{operands_low, taken_known}
use Rattle.netlist.proofs.Sim.{run-append, run_length, step-front, each_map}
use Rattle.answer.proofs.Judges.{bits-within}
use Rattle.netlist.proofs.Bits.{Bits, run-bits}
use Rattle.netlist.proofs.Glued.{map_agree}
use Rattle.netlist.proofs.Words.{gates_length, gates_snoc, outs_length, sound_valid}
use Rattle.evaluate.specs.Ready.{Ready}
use Rattle.evaluate.specs.Inner.{truth_at, gates_put, GatesFit}
use Rattle.evaluate.proofs.Readings.{truth_right}

-- The operand words of a gate that fits are no later than its own wire.
module _ {net : List ℕ} {I G : ℕ} {vals : List ℕ} (f : GatesFit net I G vals) (g : ℕ) (h : g < G) where
  pub first_low : get_or net (gate_place g + 1) 0 ≤ I + g
  first_low = (f.low g h).0

  pub second_low : get_or net (gate_place g + 2) 0 ≤ I + g
  second_low = (f.low g h).1

  pub third_low : get_or net (gate_place g + 3) 0 ≤ I + g
  third_low = (f.low g h).2

-- The gates.
module _ (net : List ℕ) (I : ℕ) (vals : List ℕ) where
  front : (n : ℕ) → I ≤ length vals → length (run val_alg (take I vals) (gates_at net header_words n)) ≡ I + n
  front n h =
      omega (arith, run_length val_alg (take I vals) (gates_at net header_words n), gates_length net header_words n, length-take-le I vals h)

  pub gates_none : I ≤ length vals → vals ≡ gates_put net I 0 vals
  unfolding gates_put over
  gates_none h = rw (length-take-le I vals h) (sym (take-append-drop I vals))

  gates_more : (n : ℕ) → I + n < length vals → Uses (I + n) (gate_at net (gate_place n))
      → set (gates_put net I n vals) (I + n) (step val_alg (gates_put net I n vals) (gate_at net (gate_place n))) ≡ gates_put net I (n + 1) vals
  unfolding gates_put over
  gates_more n h u =
      let p = run val_alg (take I vals) (gates_at net header_words n) in
      let g = gate_at net (gate_place n) in
      let lp : length p ≡ I + n = front n (omega arith) in
      ap (set (over p vals) (I + n)) (step-front val_alg p (drop (length p) vals) g (rw lp u))
      ∙ over_next p vals (I + n) (step val_alg p g) lp h
      ∙ ap (λ (t : List ℕ). over t vals)
      (sym (ap (run val_alg (take I vals)) (gates_snoc net header_words n) ∙ run-append val_alg (take I vals) (gates_at net header_words n) (g ∷ [])))

  -- a gate's value, read off its number
  value_right : (G n : ℕ) → GatesFit net I G vals → n < G
      → let cur = gates_put net I n vals in
      truth_at (gate_at net (gate_place n)) (get_or cur (get_or net (gate_place n + 1) 0) 0) (get_or cur (get_or net (gate_place n + 2) 0) 0) (get_or cur (get_or net (gate_place n + 3) 0) 0)
      ≡ step val_alg cur (gate_at net (gate_place n))
  unfolding gates_put
  value_right G n f h =
      let p = run val_alg (take I vals) (gates_at net header_words n) in
      let lp : length p ≡ I + n = front n (omega (arith, f.room)) in
      truth_right _ _ _ _ (over p vals)
      (each_map (gate_at net (gate_place n))
      (λ a l. rw (over-at p vals a (omega arith)) (run-bits (gates_at net header_words n) (take I vals) (input-bits f.bits) a))
      (f.uses n h))
    where
      input-bits : ((i : ℕ) → i < I → get_or vals i 0 ≤ 1) → Bits (take I vals)
      input-bits b =
          bits-within (take I vals)
          (λ i h. let l : i < I = omega (arith, length-take I vals) in rw (get_or-take I vals i 0 l) (b i l))

  -- a turn of the walk at gate n: cur stands, and v is the gate's value
  pub gates_turn : (G n : ℕ) {cur : List ℕ} {gate : Gate} {v : ℕ} → GatesFit net I G vals → n < G
      → cur ≡ gates_put net I n vals → gate ≡ gate_at net (gate_place n)
      → v ≡ truth_at gate (get_or cur (get_or net (gate_place n + 1) 0) 0) (get_or cur (get_or net (gate_place n + 2) 0) 0) (get_or cur (get_or net (gate_place n + 3) 0) 0)
      → set cur (I + n) v ≡ gates_put net I (n + 1) vals
  gates_turn G n f h e k w =
      rw (w, k, e)
      (ap (set (gates_put net I n vals) (I + n)) (value_right G n f h) ∙ gates_more n (omega (arith, f.room)) (f.uses n h))

-- All of them, on a sound netlist.
module _ (net inputs : List ℕ) (v o : ℕ) (r : Ready net inputs v o) where
  pub gates_fit : (vals : List ℕ) {x : List ℕ} → length vals ≡ v → x ≡ over inputs vals → GatesFit net (inputs_of net) (gates_of net) x
  gates_fit vals e f =
      let len : length (over inputs vals) ≡ length vals = length_over inputs vals (omega (arith, r.count, r.values)) in
      rw f
      record {
        words = omega (arith, r.sound.size);
        known = λ g h. taken_known _ _ _ _ (r.sound.whole g h);
        uses = r.sound.uses;
        low = λ g h. operands_low _ _ _ _ _ (r.sound.uses g h) (r.sound.whole g h);
        room = omega (arith, r.values);
        bits = λ i h. let k : i < length inputs = omega (arith, r.count) in rw (over-at inputs vals i k) (r.bits i k);
      }

  pub outputs_fit : {n m : ℕ} → n ≡ v → m ≡ o → (length (net_of net).outs ≤ m) × ((k : ℕ) → k < length (net_of net).outs → get_or (net_of net).outs k 0 < n)
  outputs_fit e f =
      let long = outs_length net r.sound in (
        omega (arith, long, r.outputs),
        λ k h. let l : k < outputs_of net = omega (arith, long) in rw (get_or-drop (gate_place (gates_of net)) net k 0) (omega (arith, r.sound.output k l, r.values)),
      )

  -- the values x after the inputs' walk and y after the gates', and the outputs z after the last
  pub all-values : (vals : List ℕ) {x y : List ℕ} → x ≡ over inputs vals → y ≡ gates_put net (inputs_of net) (gates_of net) x
      → y ≡ over (values (net_of net) inputs) vals
  unfolding gates_put
  all-values vals e f =
      let gs = gates_at net header_words (gates_of net) in
      let t : take (inputs_of net) (over inputs vals) ≡ inputs = rw r.count at (take-over inputs vals) in
      rw (f, e, t) (over-over inputs (run val_alg inputs gs) vals (omega (arith, run_length val_alg inputs gs)))

  pub all_outputs : (vals outs : List ℕ) {y z : List ℕ} → y ≡ over (values (net_of net) inputs) vals
      → z ≡ over (map (at val_alg y) (net_of net).outs) outs → z ≡ over (eval (net_of net) inputs) outs
  all_outputs vals outs e f =
      let w = values (net_of net) inputs in
      rw (f, e)
      (ap (λ (t : List ℕ). over t outs)
      (map_agree _ _ _ (net_of net).outs (sound_valid net r.sound).outs
      (λ i h. over-at w vals i (omega (arith, run_length val_alg inputs (net_of net).gates, r.count)))))
