-- Evaluation accepts a glued netlist on what the first takes, and the second on what the first gives, on any bits and with room.
use Prim.Native.Nat.{ℕ, ◌+◌, ◌<◌, ◌≤◌}
use mathlib.Core.Path.{◌≡◌, ◌∙◌}
use mathlib.Core.List.{List}
use native.Mathlib.Omega.{arith}
use lib.ListN.{length, get_or, length-map}
use Rattle.std.specs.Prelude.{Ok}
use Rattle.answer.proofs.Judges.{bits-within}
use Rattle.netlist.specs.Net.{at, run, val_alg, eval}
use Rattle.netlist.specs.Words.{inputs_of, gates_of, outputs_of, net_of}
use Rattle.netlist.proofs.Bits.{run-bits}
use Rattle.netlist.proofs.Glued.{get_or-map_lt}
use Rattle.evaluate.specs.Evaluate.{evaluate_answer}
use Rattle.evaluate.proofs.Accepted.{ready_done}
use Rattle.glue.specs.Glue.{glued_words, Fit}
use Rattle.glue.proofs.Gluing.{fitting, glued_sound, glued_gates, glued_outputs}

module _ (a b : List ℕ) (n : ℕ) (f : Fit a b n) where
  pub glued_ready : (x : List ℕ) (v o : ℕ) → length x ≡ inputs_of a → ((k : ℕ) → k < length x → get_or x k 0 ≤ 1)
      → inputs_of a + (gates_of a + gates_of b) ≤ v → outputs_of b ≤ o → evaluate_answer (glued_words a b) x v o ≡ Ok tt
  glued_ready x v o e h hv ho =
      ready_done (glued_words a b) x v o
      record {
        sound = glued_sound a b n f;
        count = e;
        bits = h;
        values = omega (arith, glued_gates a b n f);
        outputs = omega (arith, glued_outputs a b n f);
      }

  pub second_ready : (x : List ℕ) (v o : ℕ) → ((k : ℕ) → k < length x → get_or x k 0 ≤ 1)
      → inputs_of b + gates_of b ≤ v → outputs_of b ≤ o → evaluate_answer b (eval (net_of a) x) v o ≡ Ok tt
  second_ready x v o h hv ho =
      let wire = at val_alg (run val_alg x (net_of a).gates) in
      ready_done b (eval (net_of a) x) v o
      record {
        sound = f.second;
        count = length-map (net_of a).outs wire ∙ fitting a b n f;
        bits = λ k l. let m : k < length (net_of a).outs = omega (arith, length-map (net_of a).outs wire) in
            rw (get_or-map_lt wire (net_of a).outs k 0 0 m) (run-bits (net_of a).gates x (bits-within x h) _);
        values = hv;
        outputs = ho;
      }
