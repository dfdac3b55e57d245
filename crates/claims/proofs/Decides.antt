-- Every public call's promise decides the outcome: two outcomes that both meet it are equal.
use Prim.Native.Nat.{ℕ, ◌<◌, ◌≤◌, ◌^◌}
use mathlib.Core.Path.{◌≡◌, sym, ap, ◌∙◌}
use mathlib.Core.List.{List}
use native.Mathlib.Omega.{arith}
use lib.ListN.{length}
use Rattle.std.specs.Prelude.{Option, Result}
use Rattle.answer.specs.declared.Refusal.{Refusal}
use Rattle.answer.specs.Answers.{Answer, if_done}
use Rattle.answer.specs.Fronts.{left}
use Rattle.netlist.specs.Net.{Net, depth, mults}
use Rattle.netlist.specs.Words.{net_of}
use Rattle.netlist.specs.Check.{net_answer}
use Rattle.netlist.specs.Emitted.{Emitted}
use Rattle.evaluate.specs.Evaluate.{Evaluated}
use Rattle.meter.specs.declared.Level.{Level}
use Rattle.meter.specs.declared.Metered.{Metered}
use Rattle.meter.specs.Levels.{levels}
use Rattle.meter.specs.Meter.{MeteredAs}
use Rattle.glue.specs.Glue.{GluedAs}
use Rattle.choice.specs.Choice.{Chosen}
use Rattle.cipher.specs.Cipher.{Streamed, Ciphered}
use Rattle.kreyvium.specs.declared.State.{State}
use Rattle.kreyvium.specs.Kreyvium.{Registers, out_of, rounds, stream, stream_of}
use Rattle.kreyvium.specs.Words.{tops, state_of}
use Rattle.kreyvium.proofs.Bits.{tops_decide}
use Rattle.port.specs.declared.Port.{Port}
use Rattle.port.specs.declared.Field.{Field}
use Rattle.port.specs.Layout.{port_of, port_made, fields_answer, found_by, BitsWritten}
use Rattle.sequence.specs.Files.{file_answer}
use Rattle.frames.specs.Frames.{Appended, AppendedAfter, FramesRead}
use Rattle.collector.specs.Collector.{AppendedPacked, AppendedAfterPacked, ReadPacked}
use Rattle.daemon.specs.Packed.{packed_of}
use Rattle.daemon.specs.Daemon.{Enciphered}
use Rattle.path.specs.Path.{Scored}
use Rattle.cells.specs.Cells.{one_hot_net, threshold_net}
use Rattle.records.specs.declared.form.Form.{Form}
use Rattle.records.specs.File.{check_answer}
use Rattle.file.specs.File.{ReadAs, WrittenAs}
use Rattle.line.specs.declared.Line.{Line}
use Rattle.line.specs.Asked.{asked_of}
use Rattle.text.specs.Text.{Printed}
use Rattle.rounds.specs.Gates.{kreyvium_net}
use Rattle.register.specs.Judging.{emit_kreyvium_answer}
use Rattle.emit.specs.declared.Size.{Size}
use Rattle.emit.specs.Emit.{one_hot_answer, threshold_answer, wiring_answer, decipher_answer, decipher_net, sized_by}

-- two lists that were left by equal answers
same_left : {r s : Answer} (front old : List ℕ) {x y : List ℕ} → r ≡ s → x ≡ left r front old → y ≡ left s front old → x ≡ y
same_left front old e p q = p ∙ ap (λ (t : Answer). left t front old) e ∙ sym q

-- A promise that is one equation for what is returned. This is every public function of answer, netlist, instance, judging, records,
-- filter and sequence, and those of the others that are named below.
pub equation_decides : {X : Type 0} (due : X) {r s : X} → r ≡ due → s ≡ due → r ≡ s
equation_decides due p q = p ∙ sym q

pub check_decides : (l : ℕ) (net : List ℕ) {r s : Answer} → r ≡ net_answer l net → s ≡ net_answer l net → r ≡ s
check_decides l net p q = equation_decides (net_answer l net) p q

pub evaluate_decides : (net inputs vals outs : List ℕ) {r s : Answer} {v w o p : List ℕ}
    → Evaluated net inputs vals outs r v o → Evaluated net inputs vals outs s w p → (r ≡ s) × (v ≡ w) × (o ≡ p)
evaluate_decides net inputs vals outs x y =
    let e = x.answered ∙ sym y.answered in
    (e, same_left _ _ e x.filled y.filled, same_left _ _ e x.given y.given)

pub glue_decides : (a b out : List ℕ) {r s : Answer} {v w : List ℕ} → GluedAs a b out r v → GluedAs a b out s w → (r ≡ s) × (v ≡ w)
glue_decides a b out x y =
    let e = x.answered ∙ sym y.answered in
    (e, same_left _ _ e x.written y.written)

pub meter_decides : (net ds : List ℕ) (ls : List Level) {r s : Metered} {d e : List ℕ} {l m : List Level}
    → MeteredAs net ds ls r d l → MeteredAs net ds ls s e m → (r ≡ s) × (d ≡ e) × (l ≡ m)
meter_decides net ds ls {r} {s} x y =
    let p = x.answered ∙ sym y.answered in
    let q = x.deep ∙ ap (λ (t : Answer). if_done t (depth (net_of net))) p ∙ sym y.deep in
    let t = x.multiplied ∙ ap (λ (t : Answer). if_done t (mults (net_of net))) p ∙ sym y.multiplied in (
      metered_eq r s p q t,
      x.filled ∙ sym y.filled,
      x.counted ∙ ap (λ (t : Answer). left t (levels net) ls) p ∙ sym y.counted,
    )
  where
    metered_eq : (r s : Metered) → r.answer ≡ s.answer → r.depth ≡ s.depth → r.multiplications ≡ s.multiplications → r ≡ s
    metered_eq r s p q t i = record { answer = p i; depth = q i; multiplications = t i }

pub choose_decides : (inst : ℕ) (draws row : List ℕ) {r s : Answer} {v w : List ℕ} → Chosen inst draws row r v → Chosen inst draws row s w → (r ≡ s) × (v ≡ w)
choose_decides inst draws row x y =
    let e = x.answered ∙ sym y.answered in
    (e, same_left _ _ e x.written y.written)

pub keystream_decides : (inst m : ℕ) (key idx wh out : List ℕ) {r s : Answer} {v w : List ℕ}
    → Streamed inst m key idx wh out r v → Streamed inst m key idx wh out s w → (r ≡ s) × (v ≡ w)
keystream_decides inst m key idx wh out x y =
    let e = x.answered ∙ sym y.answered in
    (e, same_left _ _ e x.written y.written)

-- enciphering and deciphering
pub cipher_decides : (inst m : ℕ) (key rec idx wh out : List ℕ) {r s : Answer} {v w : List ℕ}
    → Ciphered inst m key rec idx wh out r v → Ciphered inst m key rec idx wh out s w → (r ≡ s) × (v ≡ w)
cipher_decides inst m key rec idx wh out x y =
    let e = x.answered ∙ sym y.answered in
    (e, same_left _ _ e x.written y.written)

-- the calls of emission
pub emitted_decides : {due : Answer} {net : Net} (out : List ℕ) {r s : Answer} {v w : List ℕ} → Emitted due net out r v → Emitted due net out s w → (r ≡ s) × (v ≡ w)
emitted_decides out x y =
    let e = x.answered ∙ sym y.answered in
    (e, same_left _ _ e x.written y.written)

pub one_hot_decides : (n : ℕ) (out : List ℕ) {r s : Answer} {v w : List ℕ}
    → Emitted (one_hot_answer n (length out)) (one_hot_net n) out r v → Emitted (one_hot_answer n (length out)) (one_hot_net n) out s w → (r ≡ s) × (v ≡ w)
one_hot_decides n out x y = emitted_decides out x y

pub threshold_decides : (d n : ℕ) (out : List ℕ) {r s : Answer} {v w : List ℕ}
    → Emitted (threshold_answer d n (length out)) (threshold_net d n) out r v → Emitted (threshold_answer d n (length out)) (threshold_net d n) out s w
    → (r ≡ s) × (v ≡ w)
threshold_decides d n out x y = emitted_decides out x y

pub emit_decipher_decides : (inst m : ℕ) (idx wh out : List ℕ) {r s : Answer} {v w : List ℕ}
    → Emitted (decipher_answer inst m idx wh (length out)) (decipher_net inst m idx wh) out r v
    → Emitted (decipher_answer inst m idx wh (length out)) (decipher_net inst m idx wh) out s w → (r ≡ s) × (v ≡ w)
emit_decipher_decides inst m idx wh out x y = emitted_decides out x y

pub emit_kreyvium_decides : (m : ℕ) (iv out : List ℕ) {r s : Answer} {v w : List ℕ}
    → Emitted (emit_kreyvium_answer m iv (length out)) (kreyvium_net iv m) out r v → Emitted (emit_kreyvium_answer m iv (length out)) (kreyvium_net iv m) out s w
    → (r ≡ s) × (v ≡ w)
emit_kreyvium_decides m iv out x y = emitted_decides out x y

pub decipher_size_decides : (inst m : ℕ) (idx wh : List ℕ) {r s : Result Size Refusal}
    → r ≡ sized_by (wiring_answer inst m idx wh) (decipher_net inst m idx wh) → s ≡ sized_by (wiring_answer inst m idx wh) (decipher_net inst m idx wh) → r ≡ s
decipher_size_decides inst m idx wh p q = equation_decides (sized_by (wiring_answer inst m idx wh) (decipher_net inst m idx wh)) p q

-- the netlist file, in any form
pub read_decides : (form : Form) (source out : List ℕ) {r s : Answer} {v w : List ℕ} → ReadAs form source out r v → ReadAs form source out s w → (r ≡ s) × (v ≡ w)
read_decides form source out x y =
    let e = x.answered ∙ sym y.answered in
    (e, same_left _ _ e x.written y.written)

pub write_decides : (form : Form) (net out : List ℕ) {r s : Answer} {v w : List ℕ} → WrittenAs form net out r v → WrittenAs form net out s w → (r ≡ s) × (v ≡ w)
write_decides form net out x y =
    let e = x.answered ∙ sym y.answered in
    (e, same_left _ _ e x.written y.written)

pub check_file_decides : (form : Form) (source : List ℕ) {r s : Answer} → r ≡ check_answer form source → s ≡ check_answer form source → r ≡ s
check_file_decides form source p q = equation_decides (check_answer form source) p q

-- the printing program's text
pub print_decides : (input out : List ℕ) {r s : Result ℕ Refusal} {v w : List ℕ} → Printed input out r v → Printed input out s w → (r ≡ s) × (v ≡ w)
print_decides input out x y = (x.answered ∙ sym y.answered, x.written ∙ sym y.written)

pub parse_decides : (input : List ℕ) {r s : Option Line} → r ≡ asked_of input → s ≡ asked_of input → r ≡ s
parse_decides input p q = equation_decides (asked_of input) p q

-- Kreyvium's words of keystream: 64 bits, the first the highest
pub stream64_decides : (key iv : List ℕ) {r s : ℕ} → r < 2 ^ 64 → s < 2 ^ 64 → ((n : ℕ) → n ≤ 64 → tops n r ≡ stream_of key iv n)
    → ((n : ℕ) → n ≤ 64 → tops n s ≡ stream_of key iv n) → r ≡ s
stream64_decides key iv h k p q = tops_decide _ _ h k (p 64 (omega arith) ∙ sym (q 64 (omega arith)))

-- A promise that returns a Kreyvium state fixes the registers that it stands for. States of the same registers cannot be told
-- apart: their fields are private, and each function that takes a state gives equal outputs, or again the same registers.
pub output_decides : (a b : State) → state_of a ≡ state_of b → {r s : ℕ} → r ≡ out_of (state_of a) → s ≡ out_of (state_of b) → r ≡ s
output_decides a b e p q = p ∙ ap out_of e ∙ sym q

pub outputs64_decides : (a b : State) → state_of a ≡ state_of b → {r s : ℕ} → r < 2 ^ 64 → s < 2 ^ 64
    → ((n : ℕ) → n ≤ 64 → tops n r ≡ stream n (state_of a)) → ((n : ℕ) → n ≤ 64 → tops n s ≡ stream n (state_of b)) → r ≡ s
outputs64_decides a b e h k p q = tops_decide _ _ h k (p 64 (omega arith) ∙ ap (stream 64) e ∙ sym (q 64 (omega arith)))

-- round, rounds64, warmed and with_stars, where f is what they make of the registers
pub state_decides : (f : Registers ℕ → Registers ℕ) (a b : State) → state_of a ≡ state_of b → (r s : State) → state_of r ≡ f (state_of a) → state_of s ≡ f (state_of b)
    → state_of r ≡ state_of s
state_decides f a b e r s p q = p ∙ ap f e ∙ sym q

pub rounds64_decides : (a b : State) → state_of a ≡ state_of b → (r s : State) → state_of r ≡ rounds 64 (state_of a) → state_of s ≡ rounds 64 (state_of b)
    → state_of r ≡ state_of s
rounds64_decides a b e r s p q = state_decides (rounds 64) a b e r s p q

-- the scoring daemon's calls
pub kreyvium_encipher_decides : (m : ℕ) (key rec iv out : List ℕ) {r s : ℕ} {v w : List ℕ}
    → Enciphered m key rec iv out r v → Enciphered m key rec iv out s w → (r ≡ s) × (v ≡ w)
kreyvium_encipher_decides m key rec iv out x y = (x.answered ∙ sym y.answered, x.written ∙ sym y.written)

pub daemon_check_decides : (source : List ℕ) {r s : ℕ} → r ≡ packed_of (check_answer Form.Full source) → s ≡ packed_of (check_answer Form.Full source) → r ≡ s
daemon_check_decides source p q = equation_decides (packed_of (check_answer Form.Full source)) p q

-- the whole path: the answer, and what each result holds
pub score_decides : (inst m : ℕ) (key rec idx wh score enc net glued inp vals out : List ℕ) {r s : Answer} {e₁ e₂ n₁ n₂ g₁ g₂ i₁ i₂ v₁ v₂ o₁ o₂ : List ℕ}
    → Scored inst m key rec idx wh score enc net glued inp vals out r e₁ n₁ g₁ i₁ v₁ o₁
    → Scored inst m key rec idx wh score enc net glued inp vals out s e₂ n₂ g₂ i₂ v₂ o₂
    → (r ≡ s) × (e₁ ≡ e₂) × (n₁ ≡ n₂) × (g₁ ≡ g₂) × (i₁ ≡ i₂) × (v₁ ≡ v₂) × (o₁ ≡ o₂)
score_decides inst m key rec idx wh score enc net glued inp vals out x y =
    let e = x.answered ∙ sym y.answered in (
      e,
      same_left _ _ e x.enciphers y.enciphers,
      same_left _ _ e x.emits y.emits,
      same_left _ _ e x.glues y.glues,
      same_left _ _ e x.lends y.lends,
      same_left _ _ e x.evaluates y.evaluates,
      same_left _ _ e x.scores y.scores,
    )

-- files of frames
pub append_decides : (key rec iv s out : List ℕ) {r q : Answer} {v w : List ℕ} → Appended key rec iv s out r v → Appended key rec iv s out q w → (r ≡ q) × (v ≡ w)
append_decides key rec iv s out x y =
    let e = x.answered ∙ sym y.answered in
    (e, same_left _ _ e x.written y.written)

pub append_after_decides : (key rec iv last out : List ℕ) {r q : Answer} {v w : List ℕ}
    → AppendedAfter key rec iv last out r v → AppendedAfter key rec iv last out q w → (r ≡ q) × (v ≡ w)
append_after_decides key rec iv last out x y =
    let e = x.answered ∙ sym y.answered in
    (e, same_left _ _ e x.written y.written)

pub frames_read_decides : (key s out : List ℕ) {r q : Answer} {v w : List ℕ} → FramesRead key s out r v → FramesRead key s out q w → (r ≡ q) × (v ≡ w)
frames_read_decides key s out x y =
    let e = x.answered ∙ sym y.answered in
    (e, same_left _ _ e x.written y.written)

pub frames_check_decides : (s : List ℕ) {r q : Answer} → r ≡ file_answer 1 s → q ≡ file_answer 1 s → r ≡ q
frames_check_decides s p q = equation_decides (file_answer 1 s) p q

-- a port's fields
pub made_decides : (a b c d e : ℕ) {r s : Result Port Field} → r ≡ port_made a b c d e → s ≡ port_made a b c d e → r ≡ s
made_decides a b c d e p q = equation_decides (port_made a b c d e) p q

pub fields_decides : (b : List ℕ) {r s : Result Port Refusal} → r ≡ found_by (fields_answer b) (port_of b) → s ≡ found_by (fields_answer b) (port_of b) → r ≡ s
fields_decides b p q = equation_decides (found_by (fields_answer b) (port_of b)) p q

pub bits_decides : (p : Port) (out : List ℕ) {r s : Answer} {v w : List ℕ} → BitsWritten p out r v → BitsWritten p out s w → (r ≡ s) × (v ≡ w)
bits_decides p out x y =
    let e = x.answered ∙ sym y.answered in
    (e, same_left _ _ e x.written y.written)

-- the collector's calls
pub c_append_decides : (key rec iv s out : List ℕ) {r q : ℕ} {v w : List ℕ} → AppendedPacked key rec iv s out r v → AppendedPacked key rec iv s out q w → (r ≡ q) × (v ≡ w)
c_append_decides key rec iv s out x y = (x.answered ∙ sym y.answered, x.written ∙ sym y.written)

pub c_append_after_decides : (key rec iv last out : List ℕ) {r q : ℕ} {v w : List ℕ}
    → AppendedAfterPacked key rec iv last out r v → AppendedAfterPacked key rec iv last out q w → (r ≡ q) × (v ≡ w)
c_append_after_decides key rec iv last out x y = (x.answered ∙ sym y.answered, x.written ∙ sym y.written)

pub c_read_decides : (key s out : List ℕ) {r q : ℕ} {v w : List ℕ} → ReadPacked key s out r v → ReadPacked key s out q w → (r ≡ q) × (v ≡ w)
c_read_decides key s out x y = (x.answered ∙ sym y.answered, x.written ∙ sym y.written)

pub c_check_decides : (s : List ℕ) {r q : ℕ} → r ≡ packed_of (file_answer 1 s) → q ≡ packed_of (file_answer 1 s) → r ≡ q
c_check_decides s p q = equation_decides (packed_of (file_answer 1 s)) p q
