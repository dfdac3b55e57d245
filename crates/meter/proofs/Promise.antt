-- The meter's promise, put together: refused, or prepared and then counted.
use Prim.Native.Nat.{ℕ, ◌+◌, ◌<◌, ◌≤◌}
use mathlib.Core.Path.{◌≡◌, refl, sym, ap, ◌∙◌}
use mathlib.Core.List.{List, ◌++◌}
use native.Mathlib.Omega.{arith}
use lib.ListN.{length, get_or, take, drop}
use lib.Seq.{length-take-le}
use Rattle.std.specs.Prelude.{Result, Ok, Err}
use Rattle.answer.specs.declared.Refusal.{Refusal}
use Rattle.answer.specs.Answers.{Answer, giving}
use Rattle.answer.specs.Fronts.{over, left}
use Rattle.answer.specs.Judges.{room_answer}
use Rattle.answer.proofs.Rows.{first_done, then_done, both, stop, go, untold, told, withheld, given}
use Rattle.answer.proofs.Judges.{room_done}
use Rattle.answer.proofs.Over.{over-at, length_over, kept, made}
use Rattle.netlist.specs.Net.{depths}
use Rattle.netlist.specs.Words.{inputs_of, gates_of, net_of}
use Rattle.meter.specs.declared.Level.{Level}
use Rattle.meter.specs.declared.Measured.{Measured}
use Rattle.meter.specs.Levels.{spot_of, level_count, levels, levels_below}
use Rattle.meter.specs.Meter.{depths_answer, levels_answer, meter_answer, MeteredAs}
use Rattle.meter.specs.InnerDepths.{told_of, DepthsLent, MeasuredAs, PreparedAs}
use Rattle.meter.specs.InnerLevels.{gained, Stands, Countable, Clears}
use Rattle.meter.proofs.Depths.{depths_count, gate_level}
use Rattle.meter.proofs.Levels.{below_length, below_agree}
use Rattle.meter.proofs.Spots.{spot_at, spot_slight, spot_agree, gained-mults}
use Rattle.meter.proofs.Judged.{judged_lent}

-- what is given tells of the answer
was_done : {X : Type 0} (r : Answer) {x y : X} → Ok y ≡ giving r x → (r ≡ Ok tt) × (y ≡ x)
unfolding giving
was_done (Ok _) e = (refl, cc)
was_done (Err d) e = cc

was_refused : {X : Type 0} (r : Answer) (x : X) {e : Refusal} → Err e ≡ giving r x → Err e ≡ r
unfolding giving
was_refused (Ok _) x e = cc
was_refused (Err d) x e = cc

-- Measured, and then the level list judged: refused by either, or prepared.
pub unmeasured : {net ds ds' : List ℕ} (room : ℕ) {e : Refusal} {r : Result Measured Refusal} → MeasuredAs net ds (Err e) ds' → r ≡ Err e → PreparedAs net ds room r ds'
unfolding meter_answer
unmeasured room p h = record { answered = withheld _ h (sym (stop _ (was_refused _ _ p.answered) refl)); filled = p.filled }

module _ {net ds : List ℕ} {m : Measured} {ds' : List ℕ} (p : MeasuredAs net ds (Ok m) ds') (room : ℕ) {a : Answer} (j : a ≡ room_answer 3 room m.levels) where
  done : (depths_answer net (length ds) ≡ Ok tt) × (m ≡ told_of net)
  done = was_done _ p.answered

  judged : a ≡ levels_answer net room
  unfolding levels_answer told_of
  judged = j ∙ ap (λ (q : Measured). room_answer 3 room q.levels) done.1

  pub roomless : {e : Refusal} {r : Result Measured Refusal} → a ≡ Err e → r ≡ Err e → PreparedAs net ds room r ds'
  unfolding meter_answer
  roomless h k = record { answered = withheld _ k (sym (go (sym done.0) refl (sym h ∙ judged))); filled = p.filled }

  pub prepared : a ≡ Ok tt → PreparedAs net ds room (Ok m) ds'
  unfolding meter_answer
  prepared h = record { answered = rw done.1 (given _ (both done.0 (sym judged ∙ h))); filled = p.filled }

-- Prepared: what is left to do, and what it comes to.
module _ (net ds : List ℕ) {ds' : List ℕ} (d : depths_answer net (length ds) ≡ Ok tt) (f : ds' ≡ left (depths_answer net (length ds)) (depths (net_of net)) ds) where
  lent : DepthsLent net (inputs_of net) (gates_of net) ds
  lent = judged_lent d

  stands : ds' ≡ over (depths (net_of net)) ds
  stands = f ∙ sym (made _ _ d)

  depth-at : (g : ℕ) → g < gates_of net → get_or ds' (inputs_of net + g) 0 ≡ get_or (depths (net_of net)) (inputs_of net + g) 0
  depth-at g l =
      ap (λ (v : List ℕ). get_or v (inputs_of net + g) 0) stands ∙ over-at (depths (net_of net)) ds (inputs_of net + g) (omega (arith, depths_count net))

  same_spot : (g : ℕ) → g < gates_of net → spot_of net ds' g ≡ spot_of net (depths (net_of net)) g
  same_spot g l = spot_agree net ds' g (depths (net_of net)) (depth-at g l)

  all_stand : (k : ℕ) → k < gates_of net → Stands net ds' (inputs_of net) k
  all_stand k h =
      let long : length ds' ≡ length ds = ap length stands ∙ length_over (depths (net_of net)) ds (omega (arith, depths_count net, lent.room)) in
      record { inputs = refl; word = omega (arith, lent.sound.size); wire = omega (arith, lent.room) }

  all_countable : Countable (spot_of net ds') (gates_of net) (level_count (net_of net))
  all_countable =
      record {
        limit = lent.sound.limits.gates;
        slight = λ k h. spot_slight net ds' k;
        low = λ k h. omega (arith, spot_at net ds' k, depth-at k h, gate_level (net_of net) k);
      }

  pub to_clear : Clears net ds' (level_count (net_of net))
  to_clear = record { stands = all_stand; countable = all_countable }

  pub counted : (ls : List Level) → over (levels_below (spot_of net ds') (gates_of net) (level_count (net_of net))) ls ≡ over (levels net) ls
  unfolding levels
  counted ls =
      ap (λ (l : List Level). over l ls) (below_agree (spot_of net ds') (spot_of net (depths (net_of net))) (gates_of net) (level_count (net_of net)) same_spot)

-- Prepared and counted, or refused.
module _ {net ds ds' : List ℕ} (ls : List Level) {m : Measured} (p : PreparedAs net ds (length ls) (Ok m) ds') where
  all_done : (meter_answer net (length ds) (length ls) ≡ Ok tt) × (m ≡ told_of net)
  all_done = was_done _ p.answered

  depths_done : depths_answer net (length ds) ≡ Ok tt
  unfolding meter_answer
  depths_done = first_done _ _ all_done.0

  pub roomy : m.levels ≤ length ls
  unfolding meter_answer levels_answer told_of
  roomy = rw all_done.1 (room_done 3 _ _ (then_done _ _ all_done.0))

  pub part_long : m.levels ≡ length (take m.levels ls)
  part_long = sym (length-take-le m.levels ls roomy)

  pub clears : Clears net ds' (length (take m.levels ls))
  unfolding told_of
  clears = rw (length-take-le m.levels ls roomy, all_done.1) (to_clear _ _ depths_done p.filled)

  -- the part that was lent has been counted, and the rest stands
  whole : {part : List Level} → part ≡ levels_below (spot_of net ds') (gates_of net) (length (take m.levels ls))
      → part ++ drop m.levels ls ≡ over (levels_below (spot_of net ds') (gates_of net) m.levels) ls
  unfolding over
  whole e = rw (e, length-take-le m.levels ls roomy, below_length (spot_of net ds') (gates_of net) m.levels)

  pub metered : {n : ℕ} {part : List Level} → n ≡ gained (spot_of net ds') (gates_of net) → part ≡ levels_below (spot_of net ds') (gates_of net) (length (take m.levels ls))
      → MeteredAs net ds ls (record { answer = Ok tt; depth = m.depth; multiplications = n }) ds' (part ++ drop m.levels ls)
  unfolding told_of
  metered h e =
      record {
        answered = sym all_done.0;
        deep = ap (λ (q : Measured). q.depth) all_done.1 ∙ told _ refl;
        multiplied = h ∙ gained-mults net ds' ∙ told _ refl;
        filled = p.filled;
        counted = whole e ∙ ap (λ (q : Measured). over (levels_below (spot_of net ds') (gates_of net) q.levels) ls) all_done.1 ∙ counted _ _ depths_done p.filled ls ∙ made _ _ refl;
      }

pub unmetered : {net ds ds' : List ℕ} (ls : List Level) {e : Refusal} → PreparedAs net ds (length ls) (Err e) ds'
    → MeteredAs net ds ls (record { answer = Err e; depth = 0; multiplications = 0 }) ds' ls
unmetered ls p =
    record {
      answered = was_refused _ _ p.answered;
      deep = untold _ refl;
      multiplied = untold _ refl;
      filled = p.filled;
      counted = kept _ _ refl;
    }
