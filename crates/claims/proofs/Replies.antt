-- The calls that crate probe exports: their promises decide the outcome, since the calls' own do.
use Prim.Native.Nat.{ℕ}
use mathlib.Core.Path.{◌≡◌, sym, ap, ◌∙◌}
use mathlib.Core.List.{List}
use Rattle.answer.specs.Answers.{Answer}
use Rattle.netlist.specs.Net.{Net}
use Rattle.meter.specs.declared.Level.{Level}
use Rattle.records.specs.declared.form.Form.TheVariants.{Full}
use Rattle.probe.specs.declared.Reply.{Reply}
use Rattle.probe.specs.declared.Metering.{Metering}
use Rattle.probe.specs.declared.Printout.{Printout}
use Rattle.probe.specs.Replies.{reply_of, metering_of, EvaluateReply, MeterReply, GlueReply, ChooseReply, KeystreamReply, CipherReply, EmitReply, ScoreReply, ReadReply, WriteReply, printout_of, PrintReply, AppendReply, AppendAfterReply, FramesReply}
use Rattle.claims.proofs.Decides.{evaluate_decides, meter_decides, glue_decides, choose_decides, keystream_decides, cipher_decides, emitted_decides, score_decides, read_decides, write_decides, print_decides, append_decides, append_after_decides, frames_read_decides}

told_same : (a b : Answer) {r s : Reply} → r ≡ reply_of a → s ≡ reply_of b → a ≡ b → r ≡ s
told_same a b p q e = p ∙ ap reply_of e ∙ sym q

pub evaluate_reply_decides : (net inputs vals outs : List ℕ) {r s : Reply} {v w o p : List ℕ}
    → EvaluateReply net inputs vals outs r v o → EvaluateReply net inputs vals outs s w p → (r ≡ s) × (v ≡ w) × (o ≡ p)
evaluate_reply_decides net inputs vals outs x y =
    let d = evaluate_decides net inputs vals outs x.outcome y.outcome in
    (told_same x.answer y.answer x.told y.told d.0, d.1, d.2)

pub glue_reply_decides : (a b out : List ℕ) {r s : Reply} {v w : List ℕ}
    → GlueReply a b out r v → GlueReply a b out s w → (r ≡ s) × (v ≡ w)
glue_reply_decides a b out x y =
    let d = glue_decides a b out x.outcome y.outcome in
    (told_same x.answer y.answer x.told y.told d.0, d.1)

pub choose_reply_decides : (inst : ℕ) (draws row : List ℕ) {r s : Reply} {v w : List ℕ}
    → ChooseReply inst draws row r v → ChooseReply inst draws row s w → (r ≡ s) × (v ≡ w)
choose_reply_decides inst draws row x y =
    let d = choose_decides inst draws row x.outcome y.outcome in
    (told_same x.answer y.answer x.told y.told d.0, d.1)

pub keystream_reply_decides : (inst m : ℕ) (key idx wh out : List ℕ) {r s : Reply} {v w : List ℕ}
    → KeystreamReply inst m key idx wh out r v → KeystreamReply inst m key idx wh out s w → (r ≡ s) × (v ≡ w)
keystream_reply_decides inst m key idx wh out x y =
    let d = keystream_decides inst m key idx wh out x.outcome y.outcome in
    (told_same x.answer y.answer x.told y.told d.0, d.1)

pub cipher_reply_decides : (inst m : ℕ) (key rec idx wh out : List ℕ) {r s : Reply} {v w : List ℕ}
    → CipherReply inst m key rec idx wh out r v → CipherReply inst m key rec idx wh out s w → (r ≡ s) × (v ≡ w)
cipher_reply_decides inst m key rec idx wh out x y =
    let d = cipher_decides inst m key rec idx wh out x.outcome y.outcome in
    (told_same x.answer y.answer x.told y.told d.0, d.1)

pub emit_reply_decides : (due : Answer) (net : Net) (out : List ℕ) {r s : Reply} {v w : List ℕ}
    → EmitReply due net out r v → EmitReply due net out s w → (r ≡ s) × (v ≡ w)
emit_reply_decides due net out x y =
    let d = emitted_decides out x.outcome y.outcome in
    (told_same x.answer y.answer x.told y.told d.0, d.1)

pub score_reply_decides : (inst m : ℕ) (key rec idx wh score enc net glued inp vals out : List ℕ) {r s : Reply} {e₁ e₂ n₁ n₂ g₁ g₂ i₁ i₂ v₁ v₂ o₁ o₂ : List ℕ}
    → ScoreReply inst m key rec idx wh score enc net glued inp vals out r e₁ n₁ g₁ i₁ v₁ o₁ → ScoreReply inst m key rec idx wh score enc net glued inp vals out s e₂ n₂ g₂ i₂ v₂ o₂ → (r ≡ s) × (e₁ ≡ e₂) × (n₁ ≡ n₂) × (g₁ ≡ g₂) × (i₁ ≡ i₂) × (v₁ ≡ v₂) × (o₁ ≡ o₂)
score_reply_decides inst m key rec idx wh score enc net glued inp vals out x y =
    let d = score_decides inst m key rec idx wh score enc net glued inp vals out x.outcome y.outcome in
    (told_same x.answer y.answer x.told y.told d.0, d.1, d.2, d.3, d.4, d.5, d.6)

pub read_reply_decides : (source out : List ℕ) {r s : Reply} {v w : List ℕ}
    → ReadReply source out r v → ReadReply source out s w → (r ≡ s) × (v ≡ w)
read_reply_decides source out x y =
    let d = read_decides Full source out x.outcome y.outcome in
    (told_same x.answer y.answer x.told y.told d.0, d.1)

pub write_reply_decides : (net out : List ℕ) {r s : Reply} {v w : List ℕ}
    → WriteReply net out r v → WriteReply net out s w → (r ≡ s) × (v ≡ w)
write_reply_decides net out x y =
    let d = write_decides Full net out x.outcome y.outcome in
    (told_same x.answer y.answer x.told y.told d.0, d.1)

pub meter_reply_decides : (net ds : List ℕ) (ls : List Level) {r s : Metering} {d e : List ℕ} {l m : List Level}
    → MeterReply net ds ls r d l → MeterReply net ds ls s e m → (r ≡ s) × (d ≡ e) × (l ≡ m)
meter_reply_decides net ds ls x y =
    let d = meter_decides net ds ls x.outcome y.outcome in
    (x.told ∙ ap metering_of d.0 ∙ sym y.told, d.1, d.2)

pub print_reply_decides : (input out : List ℕ) {r s : Printout} {v w : List ℕ}
    → PrintReply input out r v → PrintReply input out s w → (r ≡ s) × (v ≡ w)
print_reply_decides input out x y =
    let d = print_decides input out x.outcome y.outcome in
    (x.told ∙ ap printout_of d.0 ∙ sym y.told, d.1)

pub append_reply_decides : (key rec iv f out : List ℕ) {r s : Reply} {v w : List ℕ}
    → AppendReply key rec iv f out r v → AppendReply key rec iv f out s w → (r ≡ s) × (v ≡ w)
append_reply_decides key rec iv f out x y =
    let d = append_decides key rec iv f out x.outcome y.outcome in
    (told_same x.answer y.answer x.told y.told d.0, d.1)

pub append_after_reply_decides : (key rec iv last out : List ℕ) {r s : Reply} {v w : List ℕ}
    → AppendAfterReply key rec iv last out r v → AppendAfterReply key rec iv last out s w → (r ≡ s) × (v ≡ w)
append_after_reply_decides key rec iv last out x y =
    let d = append_after_decides key rec iv last out x.outcome y.outcome in
    (told_same x.answer y.answer x.told y.told d.0, d.1)

pub frames_reply_decides : (key f out : List ℕ) {r s : Reply} {v w : List ℕ}
    → FramesReply key f out r v → FramesReply key f out s w → (r ≡ s) × (v ≡ w)
frames_reply_decides key f out x y =
    let d = frames_read_decides key f out x.outcome y.outcome in
    (told_same x.answer y.answer x.told y.told d.0, d.1)
