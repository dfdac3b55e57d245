-- What emit_decipher accepts, and what done tells.
use Prim.Native.Nat.{ℕ, ◌+◌, ◌*◌, ◌≤◌}
use mathlib.Core.Bool.{Bool, true, false}
use mathlib.Core.Path.{◌≡◌, refl, sym, ap, ◌∙◌}
use mathlib.Core.List.{List}
use native.Mathlib.Omega.{arith}
use lib.Dec.{eqb}
use lib.ListN.{length}
use borrow.Author.Tests.{eq-eqb, ne_eqb, eqb-true, eqb-false}
use Rattle.std.specs.Prelude.{Result, Err, Ok}
use Rattle.answer.specs.declared.Refusal.{Refusal}
use Rattle.answer.specs.Answers.{Answer, giving}
use Rattle.answer.specs.Fronts.{left}
use Rattle.answer.proofs.Rows.{both, first_done, then_done, stop, pass, withheld}
use Rattle.netlist.specs.Net.{Net}
use Rattle.netlist.specs.declared.counts.Counts.{Counts}
use Rattle.netlist.specs.Words.{word_count, net_counts, words}
use Rattle.netlist.specs.Emitted.{Emitted}
use Rattle.netlist.proofs.Puts.{words-length}
use Rattle.instance.specs.Table.{sizes_of, key_bits, row_bits, white_bits}
use Rattle.answer.specs.Judges.{room_answer}
use Rattle.instance.specs.Wired.{Wired, Bits}
use Rattle.answer.proofs.Judges.{room_done, done_room, done_bits}
use Rattle.instance.proofs.Accepted.{wired_numbers, wired_lengths, wired_rows, done_wired}
use Rattle.wiring.specs.Exp.{chain}
use Rattle.wiring.specs.Decipher.{rows_net}
use Rattle.rounds.specs.Gates.{kreyvium_net}
use Rattle.rounds.proofs.Sound.{kreyvium_gates_lem, kreyvium_outs}
use Rattle.register.specs.Judging.{emit_kreyvium_answer}
use Rattle.register.proofs.Accepted.{kreyvium_accepted}
use Rattle.emit.specs.declared.Size.{Size}
use Rattle.emit.specs.Emit.{wiring_answer, decipher_answer, decipher_net, size_of, sized_by}
use Rattle.wiring.proofs.Claims.{rows_outs}
use Rattle.emit.specs.InnerRows.{Wiring}

-- What the rules let a caller lend is accepted, with room for the netlist's words.
pub wired_accepted : (inst m : ℕ) (idx wh : List ℕ) → Wired inst m idx wh → wiring_answer inst m idx wh ≡ Ok tt
unfolding wiring_answer
wired_accepted inst m idx wh w =
    both (wired_numbers inst m idx wh w)
    (both (wired_lengths inst m idx wh w 1) (both (done_bits 2 wh w.white_bit) (wired_rows inst m idx wh w 1)))

pub decipher_accepted : (inst m : ℕ) (idx wh : List ℕ) (n : ℕ) → Wired inst m idx wh → length (words (decipher_net inst m idx wh)) ≤ n
    → decipher_answer inst m idx wh n ≡ Ok tt
unfolding decipher_answer
decipher_accepted inst m idx wh n w h = both (wired_accepted inst m idx wh w) (done_room 3 n _ h)

-- And nothing else is.
pub wiring_wired : (inst m : ℕ) (idx wh : List ℕ) → wiring_answer inst m idx wh ≡ Ok tt → Wired inst m idx wh
unfolding wiring_answer
wiring_wired inst m idx wh e =
    let e1 = then_done _ _ e in
    let e2 = then_done _ _ e1 in
    done_wired 1 inst m idx wh (first_done _ _ e) (first_done _ _ e1) (first_done _ _ e2) (then_done _ _ e2)

pub decipher_wired : (inst m : ℕ) (idx wh : List ℕ) (n : ℕ) → decipher_answer inst m idx wh n ≡ Ok tt
    → Wired inst m idx wh × (length (words (decipher_net inst m idx wh)) ≤ n)
unfolding decipher_answer
decipher_wired inst m idx wh n e = (wiring_wired inst m idx wh (first_done _ _ e), room_done 3 n _ (then_done _ _ e))

-- for the call: a refusal of the wiring, and what is answered once it is accepted
pub refused_early : (inst m : ℕ) (idx wh : List ℕ) (n : ℕ) {s : Answer} {x : Refusal} → s ≡ Err x → wiring_answer inst m idx wh ≡ Err x
    → s ≡ decipher_answer inst m idx wh n
unfolding decipher_answer
refused_early inst m idx wh n e f = stop _ (e ∙ sym f) e

pub judged : (inst m : ℕ) (idx wh : List ℕ) (n : ℕ) {r : Answer} → wiring_answer inst m idx wh ≡ Ok tt
    → r ≡ room_answer 3 n (length (words (decipher_net inst m idx wh))) → r ≡ decipher_answer inst m idx wh n
unfolding decipher_answer
judged inst m idx wh n e f = pass e f

-- which of the two netlists it is
pub net_kreyvium : (inst m : ℕ) (idx wh : List ℕ) → inst ≡ 6 → decipher_net inst m idx wh ≡ kreyvium_net wh m
unfolding decipher_net
net_kreyvium inst m idx wh e = rw (eq-eqb inst 6 e)

pub net_rows : (inst m : ℕ) (idx wh : List ℕ) → (inst ≡ 6 → ⊥) → decipher_net inst m idx wh ≡ rows_net chain inst idx wh m
unfolding decipher_net
net_rows inst m idx wh h = rw (ne_eqb inst 6 h)

pub by_six : (inst : ℕ) {P : Type 0} → (inst ≡ 6 → P) → ((inst ≡ 6 → ⊥) → P) → P
by_six inst {P} f g = go (eqb inst 6) refl
  where
    go : (b : Bool) → eqb inst 6 ≡ b → P
    go true e = f (eqb-true inst 6 e)
    go false e = g (eqb-false inst 6 e)

-- how many whitening or IV bits there are
pub iv-lent : (inst m : ℕ) (idx wh : List ℕ) → Wired inst m idx wh → inst ≡ 6 → length wh ≡ 128
unfolding white_bits
iv-lent inst m idx wh l e = l.whitening ∙ ap (λ (i : ℕ). white_bits i m) e

pub rows_lent : (inst m : ℕ) (idx wh : List ℕ) → Wired inst m idx wh → (inst ≡ 6 → ⊥) → length wh ≡ m * row_bits inst
unfolding white_bits
rows_lent inst m idx wh l h = l.whitening ∙ rw (ne_eqb inst 6 h)

pub wiring_of : (inst m : ℕ) (idx wh : List ℕ) → Wired inst m idx wh → (inst ≡ 6 → ⊥) → Wiring inst m idx wh
wiring_of inst m idx wh l h =
    record {
      low = l.least;
      high = omega (arith, l.most);
      few = l.few;
      rows = record { indices = l.indices; whitening = rows_lent inst m idx wh l h; below = l.below; white_bit = l.white_bit };
    }

-- Kreyvium's writer judges again what was accepted here, so it is done
pub kreyvium_emitted : (inst m : ℕ) (idx wh out : List ℕ) (r : Answer) (o : List ℕ) → Wired inst m idx wh → inst ≡ 6
    → length (words (decipher_net inst m idx wh)) ≤ length out → Emitted (emit_kreyvium_answer m wh (length out)) (kreyvium_net wh m) out r o
    → Emitted (Ok tt) (decipher_net inst m idx wh) out r o
kreyvium_emitted inst m idx wh out r o l e room w =
    let n = net_kreyvium inst m idx wh e in
    let iv : Bits 128 wh = record { size = iv-lent inst m idx wh l e; bit = l.white_bit } in
    record {
      answered = w.answered ∙ kreyvium_accepted m wh (length out) l.some l.few iv (rw n at room);
      written = w.written ∙ ap (λ (n : Net). left r (words n) out) (sym n);
    }

-- how many gates, outputs and words the netlist has
pub kreyvium_count : (inst m : ℕ) (idx wh : List ℕ) → inst ≡ 6 → 16130 + 17 * m ≡ length (decipher_net inst m idx wh).gates
kreyvium_count inst m idx wh e =
    sym (ap (λ (n : Net). length n.gates) (net_kreyvium inst m idx wh e) ∙ kreyvium_gates_lem wh m)

pub rows_count : (inst m : ℕ) (idx wh : List ℕ) {g : ℕ} → (inst ≡ 6 → ⊥) → g ≡ length (rows_net chain inst idx wh m).gates
    → g ≡ length (decipher_net inst m idx wh).gates
rows_count inst m idx wh h e = e ∙ sym (ap (λ (n : Net). length n.gates) (net_rows inst m idx wh h))

inputs_count : (inst m : ℕ) (idx wh : List ℕ) → (decipher_net inst m idx wh).inputs ≡ key_bits inst + m
unfolding kreyvium_net rows_net sizes_of
inputs_count inst m idx wh =
    by_six inst
    (λ e. ap Net.inputs (net_kreyvium inst m idx wh e) ∙ ap (λ (i : ℕ). key_bits i + m) (sym e))
    (λ h. ap Net.inputs (net_rows inst m idx wh h))

pub outs_count : (inst m : ℕ) (idx wh : List ℕ) → Wired inst m idx wh → length (decipher_net inst m idx wh).outs ≡ m
outs_count inst m idx wh l =
    by_six inst
    (λ e. ap (λ (n : Net). length n.outs) (net_kreyvium inst m idx wh e) ∙ kreyvium_outs wh m)
    (λ h. let w = wiring_of inst m idx wh l h in
    ap (λ (n : Net). length n.outs) (net_rows inst m idx wh h) ∙ rows_outs inst m idx wh w.low w.high w.rows)

-- in the code's words: all three counts, where g are the gates and N the key's bits
pub counts_are : (inst m : ℕ) (idx wh : List ℕ) (N g : ℕ) → Wired inst m idx wh → N ≡ key_bits inst → g ≡ length (decipher_net inst m idx wh).gates
    → record { inputs = N + m; gates = g; outputs = m } ≡ net_counts (decipher_net inst m idx wh)
counts_are inst m idx wh N g w en eg k =
    record {
      inputs = (ap (λ (n : ℕ). n + m) en ∙ sym (inputs_count inst m idx wh)) k;
      gates = eg k;
      outputs = sym (outs_count inst m idx wh w) k;
    }

-- What decipher_size returns: the refusal, or both counts.
pub no_size : {a r : Answer} {s : Result Size Refusal} {x : Refusal} (net : Net) → s ≡ Err x → r ≡ a → r ≡ Err x → s ≡ sized_by a net
unfolding sized_by
no_size net h e f = withheld _ h (sym e ∙ f)

pub size_is : {a : Answer} (net : Net) (c : Counts) (n : ℕ) → a ≡ Ok tt → c ≡ net_counts net → n ≡ word_count c
    → Ok (record { gates = c.gates; words = n }) ≡ sized_by a net
unfolding sized_by giving
size_is net c n e h k = rw (e, k, h, words-length net)

-- what it then tells
pub size_refused : (a : Answer) (net : Net) {s : Result Size Refusal} {x : Refusal} → s ≡ sized_by a net → s ≡ Err x → a ≡ Err x
unfolding sized_by giving
size_refused (Ok _) net e h = cc
size_refused (Err r) net e h = cc

pub size_answer : (a : Answer) (net : Net) {s : Result Size Refusal} {z : Size} → s ≡ sized_by a net → s ≡ Ok z → a ≡ Ok tt
unfolding sized_by giving
size_answer (Ok _) net e h = refl
size_answer (Err r) net e h = cc

pub size_counts : (a : Answer) (net : Net) {s : Result Size Refusal} {z : Size} → s ≡ sized_by a net → s ≡ Ok z
    → (z.gates ≡ length net.gates) × (z.words ≡ length (words net))
unfolding sized_by giving
size_counts (Ok _) net {z = z} e h = let d : z ≡ size_of net = cc in (ap Size.gates d, ap Size.words d)
size_counts (Err r) net e h = cc
