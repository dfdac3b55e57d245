-- What the answers tell of an accepted netlist and its depth list, and what is measured of it.
use Prim.Native.Nat.{ℕ, ◌+◌, ◌<◌}
use mathlib.Core.Path.{◌≡◌, refl, ap, ◌∙◌}
use mathlib.Core.List.{List, map}
use native.Mathlib.Omega.{arith}
use lib.ListN.{length, get_or, take, drop, length-drop}
use lib.Seq.{get_or-drop}
use Rattle.std.specs.Prelude.{Ok}
use Rattle.answer.specs.Fronts.{over}
use Rattle.answer.proofs.Rows.{first_done, then_done, given}
use Rattle.answer.proofs.Judges.{room_done}
use Rattle.answer.proofs.Over.{length_over, made}
use Rattle.netlist.specs.Net.{at, dep_alg, max_of, depths, depth}
use Rattle.netlist.specs.Words.{inputs_of, gates_of, outputs_of, gate_place, net_of}
use Rattle.netlist.proofs.Accepted.{done_sound}
use Rattle.meter.specs.Levels.{level_count}
use Rattle.meter.specs.Meter.{depths_answer}
use Rattle.meter.specs.InnerDepths.{depths_to, told_of, DepthsLent, MeasuredAs}
use Rattle.meter.proofs.Depths.{depths-length, depths_whole, top_level, outs_depth}

pub judged_lent : {net ds : List ℕ} → depths_answer net (length ds) ≡ Ok tt → DepthsLent net (inputs_of net) (gates_of net) ds
unfolding depths_answer
judged_lent {net} {ds} d =
    record {
      sound = done_sound 1 net (first_done _ _ d);
      inputs = refl;
      gates = refl;
      room = room_done 2 _ _ (then_done _ _ d);
    }

-- For the depths, once they are filled.
module _ {net ds ds' : List ℕ} (s : DepthsLent net (inputs_of net) (gates_of net) ds) (f : ds' ≡ over (depths_to net (gates_of net)) ds) where
  pub long : length ds' ≡ length ds
  long = ap length f ∙ length_over (depths_to net (gates_of net)) ds (omega (arith, depths-length net (gates_of net), s.room))

  pub outs_stand : (o : ℕ) → o < length (drop (gate_place (gates_of net)) net) → get_or (drop (gate_place (gates_of net)) net) o 0 < length ds'
  outs_stand o h =
      let l : o < outputs_of net = omega (arith, length-drop (gate_place (gates_of net)) net, s.sound.size) in
      rw (get_or-drop (gate_place (gates_of net)) net o 0) (omega (arith, s.sound.output o l, long, s.room))

  pub measured : {top deep : ℕ} → depths_answer net (length ds) ≡ Ok tt → top ≡ max_of (take (inputs_of net + gates_of net) ds')
      → deep ≡ max_of (map (at dep_alg ds') (drop (gate_place (gates_of net)) net)) → MeasuredAs net ds (Ok (record { depth = deep; levels = top + 1 })) ds'
  unfolding told_of
  measured {top} {deep} d t h =
      let w : ds' ≡ over (depths (net_of net)) ds = f ∙ ap (λ (l : List ℕ). over l ds) (depths_whole net) in
      let is_deep : deep ≡ depth (net_of net) = h ∙ ap (λ (l : List ℕ). max_of (map (at dep_alg l) (drop (gate_place (gates_of net)) net))) w ∙ outs_depth net ds s.sound in
      let is_tall : top + 1 ≡ level_count (net_of net) = ap (λ (k : ℕ). k + 1) (t ∙ ap (λ (l : List ℕ). max_of (take (inputs_of net + gates_of net) l)) w) ∙ top_level net ds in
      record { answered = rw (is_deep, is_tall) (given _ d); filled = w ∙ made _ _ d }
