-- The one-hot and threshold netlists as the code has them: their gates are cells over inputs 0 .. n-1, or one constant.
use Prim.Native.Nat.{ℕ, zero, suc, ◌+◌, ◌-◌, ◌≤◌, ◌<◌}
use mathlib.Core.Path.{◌≡◌, refl, sym, ap, ◌∙◌}
use mathlib.Core.List.{List, [], ◌∷◌}
use mathlib.Core.Bool.{Bool, true, false}
use native.Mathlib.Omega.{arith}
use native.Mathlib.Numerals.{add-one}
use borrow.Author.Tests.{lt-ltb, le-ltb, eq-eqb, ne_eqb, ltb-false, eqb-false}
use lib.Dec.{ltb, eqb}
use lib.ListN.{length, set, take}
use lib.Seq.{sets}
use Rattle.std.specs.Prelude.{Ok, Err}
use Rattle.answer.specs.declared.Refusal.{Refusal}
use Rattle.answer.specs.declared.Reason.TheVariants.{Shape}
use Rattle.answer.specs.Answers.{Answer, refused, ◌▹◌, refuse}
use Rattle.answer.specs.Choose.{choose}
use Rattle.answer.specs.Fronts.{over}
use Rattle.answer.proofs.Rows.{refuse_not, refuse_yes, stop, pass}
use Rattle.answer.proofs.Over.{over_none, over-sets, take-over, kept, made}
use Rattle.netlist.specs.declared.counts.Counts.{Counts}
use Rattle.netlist.specs.declared.gate.Gate.{Gate}
use Rattle.netlist.specs.declared.gate.Gate.TheVariants.{Zero, One}
use Rattle.netlist.specs.Gates.{gate_words}
use Rattle.netlist.specs.Net.{Net}
use Rattle.netlist.specs.Words.{word_count, net_counts, words}
use Rattle.netlist.specs.Part.{Part}
use Rattle.netlist.specs.Glue.{up_from}
use Rattle.netlist.proofs.Sim.{split}
use Rattle.netlist.proofs.Glued.{up_from-length}
use Rattle.answer.specs.Judges.{room_answer}
use Rattle.answer.proofs.Judges.{room_done}
use Rattle.cells.specs.Cells.{one_hot_net, threshold_part, threshold_net, all_gates, last_level, first_level, first_gates, levels_gates, levels_end}
use Rattle.cells.specs.InnerLoop.{cells}
use Rattle.cells.proofs.Facts.{one_hot_inputs, one_hot_outputs, threshold_inputs, threshold_outputs}
use Rattle.cells.proofs.Same.{threshold-part_loop, threshold_net_loop, threshold_net_zero, one_hot_loop}
use Rattle.netlist.specs.Emitted.{Emitted}
use Rattle.netlist.specs.Put.{put_gates, Wrote}
use Rattle.netlist.proofs.Puts.{put_one, words-length}
use Rattle.emit.specs.Emit.{no_threshold}
use Rattle.emit.proofs.Climbing.{cells-length}

-- a gate alone
pub alone : (g : Gate) (gs : List Gate) (out o : List ℕ) (at : ℕ) → gs ≡ g ∷ [] → o ≡ sets out at (gate_words g) → o ≡ put_gates out at gs
alone g gs out o at e f = f ∙ sym (put_one g out at) ∙ ap (put_gates out at) (sym e)

-- wires 0 .. n-1, stored at the front of a list
pub wires_taken : (n : ℕ) (ws o : List ℕ) → n ≤ length ws → o ≡ sets ws 0 (up_from 0 n) → take n o ≡ up_from 0 n
wires_taken n ws o h e =
    let f = up_from 0 n in
    let l : length f ≡ n = up_from-length 0 n in
    ap (take n) (e ∙ ap (λ (w : List ℕ). sets w 0 f) (sym (over_none ws)) ∙ over-sets [] f ws 0 refl (omega arith))
    ∙ ap (λ (k : ℕ). take k (over f ws)) (sym l)
    ∙ take-over f ws

-- Threshold over any wires.
pub part-cells : (next d : ℕ) (ws : List ℕ) → 2 ≤ length ws → 1 ≤ d → d ≤ length ws
    → (threshold_part next d ws).gates ≡ cells ws (length ws - d) d next
part-cells next d ws h k l = ap Part.gates (threshold-part_loop next d ws h k l)

pub part_wrote : (next d : ℕ) (ws out o : List ℕ) (at r free : ℕ) → 2 ≤ length ws → 1 ≤ d → d ≤ length ws
    → o ≡ put_gates out at (cells ws (length ws - d) d next) → free ≡ next + length (cells ws (length ws - d) d next) → r ≡ free - 1
    → Wrote out at (threshold_part next d ws) o r
part_wrote next d ws out o at r free h k l e f q =
    let p = threshold-part_loop next d ws h k l in
    record { gates = e ∙ ap (λ (x : Part). put_gates out at x.gates) (sym p); wire = q ∙ ap (λ (n : ℕ). n - 1) f ∙ ap Part.out (sym p) }

-- One-hot.
hot_one : (one_hot_net 1).gates ≡ cells (up_from 0 1) 1 2 1
unfolding one_hot_net all_gates first_gates levels_gates
hot_one = refl

pub hot_none : (n : ℕ) → n ≡ 0 → (one_hot_net n).gates ≡ One ∷ []
unfolding one_hot_net
hot_none zero e = refl
hot_none (suc n) e = absurd (omega arith)

pub hot_cells : (n : ℕ) → (n ≡ 0 → ⊥) → (one_hot_net n).gates ≡ cells (up_from 0 n) n (n + 1) n
hot_cells zero h = absurd (h refl)
hot_cells (suc zero) h = hot_one
hot_cells (suc (suc n)) h = ap Net.gates (one_hot_loop (suc (suc n)) (omega arith))

hot_outs_1 : (one_hot_net 1).outs ≡ 1 ∷ 0 ∷ []
unfolding one_hot_net last_level first_level levels_end
hot_outs_1 = refl

hot_outs_0 : (one_hot_net 0).outs ≡ 0 ∷ []
unfolding one_hot_net
hot_outs_0 = refl

pub hot_outs_two : (n at : ℕ) (out : List ℕ) → n ≡ 1 → set (set out at 1) (at + 1) 0 ≡ sets out at (one_hot_net n).outs
hot_outs_two n at out e = rw (e, hot_outs_1, add-one at)

pub hot_outs : (n g : ℕ) → (n ≡ 1 → ⊥) → g ≡ length (one_hot_net n).gates → up_from (g - 1) (n + 1) ≡ (one_hot_net n).outs
hot_outs zero g h e = rw (e, hot_none 0 refl) (sym hot_outs_0)
hot_outs (suc zero) g h e = absurd (h refl)
hot_outs (suc (suc n)) g h e =
    let k = suc (suc n) in
    ap (λ (x : ℕ). up_from (x - 1) (k + 1)) (e ∙ ap length (hot_cells k (λ q. absurd (omega arith)))) ∙ ap Net.outs (sym (one_hot_loop k (omega arith)))

-- in the code's words: all three counts, where g are the gates
pub hot_counts : (n g : ℕ) → g ≡ length (one_hot_net n).gates → record { inputs = n; gates = g; outputs = n + 1 } ≡ net_counts (one_hot_net n)
hot_counts n g e k = record { inputs = sym (one_hot_inputs n) k; gates = e k; outputs = sym (one_hot_outputs n) k }

pub hot_some : (n : ℕ) → 1 ≤ length (one_hot_net n).gates
hot_some zero = rw (hot_none 0 refl) (omega arith)
hot_some (suc n) =
    let k = suc n in
    omega (arith, ap length (hot_cells k (λ q. absurd (omega arith))), cells-length (up_from 0 k) k (k + 1) 0 k (omega (arith, up_from-length 0 k)))

-- Threshold.
zero_net : (d n : ℕ) → n < d → d ≤ n + 1 → threshold_net d n ≡ record { inputs = n; gates = Zero ∷ []; outs = n ∷ [] }
zero_net d n h k = let e : d ≡ n + 1 = omega arith in rw e (threshold_net_zero n)

pub threshold_zero : (d n : ℕ) → n < d → d ≤ n + 1 → (threshold_net d n).gates ≡ Zero ∷ []
threshold_zero d n h k = ap Net.gates (zero_net d n h k)

pub threshold-cells : (d n : ℕ) → 1 ≤ d → d ≤ n → (threshold_net d n).gates ≡ cells (up_from 0 n) (n - d) d n
threshold-cells d n h k = ap Net.gates (threshold_net_loop d n h k)

pub threshold_counts : (d n g : ℕ) → g ≡ length (threshold_net d n).gates → record { inputs = n; gates = g; outputs = 1 } ≡ net_counts (threshold_net d n)
threshold_counts d n g e k = record { inputs = sym (threshold_inputs d n) k; gates = e k; outputs = sym (threshold_outputs d n) k }

-- the output is the last wire; where there are no inputs there is a ZERO
threshold_end : (d n : ℕ) → 1 ≤ d → d ≤ n + 1 → ((threshold_net d n).outs ≡ (n + length (threshold_net d n).gates - 1) ∷ []) × (1 ≤ n + length (threshold_net d n).gates)
threshold_end d n h k =
    split n d
    (λ z. let e : n ≡ n + 1 - 1 = omega arith in rw (zero_net d n z k) (ap (λ (w : ℕ). w ∷ []) e, omega arith))
    (λ z. rw (threshold_net_loop d n h z) (refl, omega arith))

pub threshold_outs : (d n g : ℕ) → 1 ≤ d → d ≤ n + 1 → g ≡ length (threshold_net d n).gates → up_from (n + g - 1) 1 ≡ (threshold_net d n).outs
threshold_outs d n g h k e = ap (λ (x : ℕ). (n + x - 1) ∷ []) e ∙ sym (threshold_end d n h k).0

pub threshold-some : (d n g : ℕ) → 1 ≤ d → d ≤ n + 1 → g ≡ length (threshold_net d n).gates → 1 ≤ n + g
threshold-some d n g h k e = omega (arith, (threshold_end d n h k).1)

-- 13: the tests in the code's order
pub shape_many : (d n : ℕ) → 64 < n → true ≡ no_threshold d n
unfolding no_threshold
shape_many d n h = rw (lt-ltb 64 n h)

pub shape_zero : (d n : ℕ) → n ≤ 64 → d ≡ 0 → true ≡ no_threshold d n
unfolding no_threshold
shape_zero d n h e = rw (le-ltb 64 n h, eq-eqb d 0 e)

pub shape_last : (d n : ℕ) → n ≤ 64 → (d ≡ 0 → ⊥) → ltb (n + 1) d ≡ no_threshold d n
unfolding no_threshold
shape_last d n h e = rw (le-ltb 64 n h, ne_eqb d 0 e)

-- what an accepted shape tells
choose_false : (a b : Bool) → choose a true b ≡ false → (a ≡ false) × (b ≡ false)
choose_false true b e = let z : ◌≡◌ {A = ℕ} 0 1 = cc in absurd (omega arith)
choose_false false b e = (refl, e)

pub shape_good : (d n : ℕ) → no_threshold d n ≡ false → (n ≤ 64) × (1 ≤ d) × (d ≤ n + 1)
unfolding no_threshold
shape_good d n e =
    let a = choose_false (ltb 64 n) _ e in
    let b = choose_false (eqb d 0) _ a.1 in
    (ltb-false 64 n a.0, omega (arith, eqb-false d 0 b.0), ltb-false (n + 1) d b.1)

pub good_shape : (d n : ℕ) → n ≤ 64 → 1 ≤ d → d ≤ n + 1 → no_threshold d n ≡ false
good_shape d n h k l = sym (shape_last d n h (λ e. absurd (omega arith))) ∙ le-ltb (n + 1) d l

-- the need that was counted is that of the netlist
pub need_is : {need : ℕ} {a b : Counts} → need ≡ word_count a → a ≡ b → need ≡ word_count b
need_is e f = e ∙ ap word_count f

-- What a call answers and leaves, where `shape` says that 13 is due.
module _ (shape : Bool) (net : Net) (out : List ℕ) where
  abbrev due : Answer
  due = refuse Shape 0 0 shape ▹ room_answer 1 (length out) (length (words net))

  pub no_shape : (r : Answer) → shape ≡ true → r ≡ refused Shape 0 0 → Emitted due net out r out
  no_shape r e f = record { answered = f ∙ stop _ (refuse_yes Shape 0 0 e) refl; written = kept _ _ f }

  module _ (good : shape ≡ false) (r : Answer) (need : ℕ) (counted : need ≡ word_count (net_counts net)) (judged : r ≡ room_answer 1 (length out) need) where
    answered_room : r ≡ due
    answered_room = pass (refuse_not Shape 0 0 good) (judged ∙ ap (room_answer 1 (length out)) (counted ∙ sym (words-length net)))

    pub no_room : {s : Answer} {x : Refusal} → s ≡ Err x → r ≡ Err x → Emitted due net out s out
    no_room e h = record { answered = e ∙ sym h ∙ answered_room; written = kept _ _ e }

    pub in_room : r ≡ Ok tt → length (words net) ≤ length out
    in_room e = room_done 1 (length out) (length (words net)) (ap (room_answer 1 (length out)) (words-length net ∙ sym counted) ∙ sym judged ∙ e)

    pub all-written : (o : List ℕ) → r ≡ Ok tt → o ≡ over (words net) out → Emitted due net out (Ok tt) o
    all-written o e f = record { answered = sym e ∙ answered_room; written = f ∙ made _ _ refl }
