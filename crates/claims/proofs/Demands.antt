-- The request's demands, sentence by sentence, of the calls' own promises. What is lent is any wiring, key and record that the
-- rules let a caller lend, and room for each result: that the calls are done is said, not supposed. docs/CLAIMS.md has the
-- sentences beside these theorems.
use Prim.Native.Nat.{ℕ, ◌+◌, ◌-◌, ◌*◌, ◌/◌, ◌<◌, ◌≤◌}
use mathlib.Core.Bool.{not}
use mathlib.Core.Path.{◌≡◌, refl, sym, ap, subst, ◌∙◌}
use mathlib.Core.List.{List, ◌++◌}
use native.Mathlib.Omega.{arith}
use lib.ListN.{length, get_or, take}
use borrow.Author.Tests.{eq-eqb, le-ltb}
use Rattle.std.specs.Prelude.{Ok}
use Rattle.answer.specs.declared.Reason.{Reason}
use Rattle.answer.specs.declared.Reason.TheVariants as reasons
use Rattle.answer.specs.Answers.{Answer, refused}
use Rattle.answer.specs.Bits.{added}
use Rattle.answer.specs.Fronts.{over, left}
use Rattle.answer.proofs.Rows.{both, refuse_not}
use Rattle.answer.proofs.Over.{over-at, kept, made}
use Rattle.answer.proofs.Judges.{done_room}
use Rattle.answer.proofs.Added.{added_twice}
use Rattle.netlist.specs.Net.{Net, eval, depth, mults}
use Rattle.netlist.specs.Words.{inputs_of, gates_of, outputs_of, words, net_of}
use Rattle.netlist.specs.Glue.{pass}
use Rattle.netlist.specs.Check.{output_limit}
use Rattle.netlist.specs.Sound.{Sound}
use Rattle.netlist.specs.Emitted.{Emitted}
use Rattle.netlist.proofs.Accepted.{sound_done}
use Rattle.netlist.proofs.Words.{net_of-words}
use Rattle.evaluate.specs.Evaluate.{Evaluated}
use Rattle.evaluate.proofs.Accepted.{ready_done}
use Rattle.meter.specs.declared.Level.{Level}
use Rattle.meter.specs.declared.Metered.{Metered}
use Rattle.meter.specs.Levels.{level_count}
use Rattle.meter.specs.Meter.{MeteredAs}
use Rattle.glue.specs.Glue.{glued_size, glue_answer, glued_words, GluedAs, Fit, FitThree}
use Rattle.glue.proofs.Gluing.{glue_accepts, glued_sound, glued_evaluates, glued_depth, glued_mults, front-first, back-first, grouping, pass_before, pass_after}
use Rattle.instance.specs.Table.{key_bits}
use Rattle.instance.specs.Wired.{Wired, Bits}
use Rattle.instance.specs.Keys.{Keyed, key_in}
use Rattle.filter.proofs.Tab.{tab-at}
use Rattle.judging.proofs.Accepted.{encipher_accepted}
use Rattle.cipher.specs.Rows.{stream_bit}
use Rattle.cipher.specs.Cipher.{keystream_of, encipher_of, Streamed, Ciphered}
use Rattle.cipher.proofs.Accepted.{stream_of_lem, rows_of}
use Rattle.cipher.proofs.Written.{keystream_length}
use Rattle.wiring.specs.Costs.{cost_of}
use Rattle.rounds.proofs.Depths.{kreyvium_depth}
use Rattle.emit.specs.Emit.{decipher_net, decipher_answer}
use Rattle.emit.proofs.Accepted.{net_kreyvium, iv-lent}
use Rattle.emit.proofs.Emission.{emitted_sound, emitted_mults, emitted_depth, kreyvium_emitted_mults}
use Rattle.path.specs.Path.{rooms_answer, results_answer, score_answer, Scored}
use Rattle.path.proofs.Scores.{inputs_of_lem, scores_same}
use Rattle.claims.specs.Demands.{AsPublished, net_words, Scores, MeterCall}
use Rattle.claims.proofs.Accepted.{front_of, keystream_gives, encipher_gives, enciphered}
use Rattle.claims.proofs.Published.{row-published}
use Rattle.claims.proofs.Evaluating.{glued_ready, second_ready}
use Rattle.claims.proofs.Scoring.{outputs_count, outputs_front, words_left, score_fits, score_ready, plain_ready, emitted_gives}
use Rattle.claims.proofs.Metering.{meter_accepts, depth_is, mults_is}

-- ---- Demand 1
-- That every public call ends on all inputs without undefined behaviour is what proving it without a `requires` means. Each
-- promise gives the answer and every lent list by an equation: proofs/Decides.antt and proofs/Replies.antt show of each call that
-- it leaves one outcome alone.

-- Nothing lent changes where a call refuses: what its promise then leaves is what was lent.
pub refused_unchanged : {X : Type 0} {r : Answer} {reason : Reason} {list place : ℕ} (new old : List X) {left' : List X}
    → r ≡ refused reason list place → left' ≡ left r new old → left' ≡ old
refused_unchanged new old e w = w ∙ sym (kept new old e)

-- ---- Demand 2

-- Keystream bits are those of FLIP, FiLIP and Kreyvium as published, for the six instances.
module _ (inst m : ℕ) (key idx wh out : List ℕ) (wired : Wired inst m idx wh) (keyed : Keyed inst key) (space : m ≤ length out)
    {r : Answer} {out' : List ℕ} (s : Streamed inst m key idx wh out r out') where
  abbrev bits : List ℕ
  bits = key_in inst key

  abbrev ks : List ℕ
  ks = keystream_of inst m bits idx wh

  stream-left : (r ≡ Ok tt) × (out' ≡ over ks out)
  stream-left = keystream_gives inst m idx wh wired key keyed out space s

  stream-bit : (t : ℕ) → t < m → get_or out' t 0 ≡ get_or ks t 0
  stream-bit t h =
      ap (λ (l : List ℕ). get_or l t 0) stream-left.1 ∙ over-at ks out t (omega (arith, keystream_length inst m bits idx wh))

  pub keystream_published : (r ≡ Ok tt) × AsPublished inst m (key_in inst key) idx wh out'
  keystream_published = (
    stream-left.0,
    record {
      filtered = λ h l t q.
          stream-bit t q
          ∙ ap (λ (z : List ℕ). get_or z t 0) (sym (rows_of inst m bits idx wh (λ e. omega arith)))
          ∙ tab-at (stream_bit inst bits idx wh) m t q
          ∙ row-published inst bits idx wh t h l;
      streamed = λ e. front_of ks out m (keystream_length inst m bits idx wh) stream-left.1 ∙ sym (stream_of_lem inst m bits idx wh e);
    },
  )

-- Deciphering gives back the record that was enciphered, under the same key and wiring or IV: a call that is lent the m bits which
-- the first left leaves the record. Enciphering gives back what was deciphered, too: both are promised by Ciphered.
pub ciphering_back : (inst m : ℕ) (key rec idx wh out back : List ℕ) {q r : Answer} {c d : List ℕ}
    → Wired inst m idx wh → Keyed inst key → Bits m rec → m ≤ length out → m ≤ length back
    → Ciphered inst m key rec idx wh out q c → Ciphered inst m key (take m c) idx wh back r d
    → (q ≡ Ok tt) × (r ≡ Ok tt) × (d ≡ over rec back)
unfolding encipher_of
ciphering_back inst m key rec idx wh out back {q} {r} {c} {d} w k b h g x y =
    let K = key_in inst key in
    let e = encipher_of inst m K rec idx wh in
    let ks = keystream_of inst m K idx wh in
    let a = encipher_gives inst m idx wh w key k rec out b h x in
    let f = enciphered inst m idx wh w key k rec b in
    let t : take m c ≡ e = front_of e out m f.size a.1 in
    let z = encipher_gives inst m idx wh w key k (take m c) back (subst (Bits m) (sym t) f) g y in
    let v : encipher_of inst m K (take m c) idx wh ≡ rec =
    ap (λ (o : List ℕ). added o ks) t ∙ added_twice rec ks (omega (arith, b.size, keystream_length inst m K idx wh)) b.bit in
    (a.0, z.0, z.1 ∙ ap (λ (o : List ℕ). over o back) v)

-- The emitted netlist, evaluated on any key and any enciphered record, gives what deciphering under that key gives.
pub emitted_deciphers : (inst m : ℕ) (key rec idx wh out back vals outs : List ℕ) {q r t : Answer} {out' back' vals' outs' : List ℕ}
    → Wired inst m idx wh → Keyed inst key → Bits m rec
    → length (net_words inst m idx wh) ≤ length out → m ≤ length back
    → inputs_of (net_words inst m idx wh) + gates_of (net_words inst m idx wh) ≤ length vals → m ≤ length outs
    → Emitted (decipher_answer inst m idx wh (length out)) (decipher_net inst m idx wh) out q out'
    → Ciphered inst m key rec idx wh back r back'
    → Evaluated (take (length (net_words inst m idx wh)) out') (key_in inst key ++ rec) vals outs t vals' outs'
    → (q ≡ Ok tt) × (r ≡ Ok tt) × (t ≡ Ok tt) × (take m outs' ≡ take m back')
emitted_deciphers inst m key rec idx wh out back vals outs w k b hn hb hv ho x c v =
    let e = emitted_gives inst m idx wh w key rec k b out vals outs hn hv ho x v in
    let g = encipher_gives inst m idx wh w key k rec back b hb c in
    let n = (enciphered inst m idx wh w key k rec b).size in
    (e.0, g.0, e.1, e.2 ∙ sym (front_of (encipher_of inst m (key_in inst key) rec idx wh) back m n g.1))

-- Its depth and multiplications are those that the rules define: the rules' table for instances 1 to 5, the multiplications for each of m bits; Kreyvium's
-- multiplications, and its bound of depth at the last output bit, t = m - 1: (1,087 + t) / 82 rounded up.
pub emitted_metered : (inst m : ℕ) (idx wh out ds : List ℕ) (ls : List Level) {q : Answer} {r : Metered} {out' ds' : List ℕ} {ls' : List Level}
    → Wired inst m idx wh
    → length (net_words inst m idx wh) ≤ length out
    → inputs_of (net_words inst m idx wh) + gates_of (net_words inst m idx wh) ≤ length ds → level_count (decipher_net inst m idx wh) ≤ length ls
    → Emitted (decipher_answer inst m idx wh (length out)) (decipher_net inst m idx wh) out q out'
    → MeteredAs (take (length (net_words inst m idx wh)) out') ds ls r ds' ls'
    → (q ≡ Ok tt)
    × (r.answer ≡ Ok tt)
    × (inst ≤ 5 → (r.depth ≡ (cost_of inst).depth) × (r.multiplications ≡ m * (cost_of inst).mults))
    × (inst ≡ 6 → (r.depth ≤ (1087 + (m - 1) + 81) / 82) × (r.multiplications ≡ 3 * (1152 + m)))
emitted_metered inst m idx wh out ds ls {q} {r} {out'} {ds'} {ls'} wired hn hd hl x y =
    let W = net_words inst m idx wh in
    let net = decipher_net inst m idx wh in
    let w = words_left inst m idx wh wired out hn x in
    let s = emitted_sound inst m idx wh wired in
    let c : MeterCall W r =
    record {
      ds = ds;
      ls = ls;
      ds' = ds';
      ls' = ls';
      wires = hd;
      levels = subst (λ (n : Net). level_count n ≤ length ls) (sym (net_of-words net)) hl;
      outcome = rw w.1 at y;
    } in
    let d : r.depth ≡ depth net = depth_is W r s c ∙ ap depth (net_of-words net) in
    let k : r.multiplications ≡ mults net = mults_is W r s c ∙ ap mults (net_of-words net) in (
      w.0,
      meter_accepts W r s c,
      λ h. let n : inst ≡ 6 → ⊥ = λ e. omega arith in
          (d ∙ emitted_depth inst m idx wh wired n, k ∙ emitted_mults inst m idx wh wired n),
      λ e. (omega (arith, d, ap depth (net_kreyvium inst m idx wh e), kreyvium_depth wh m (iv-lent inst m idx wh wired e), wired.some), k ∙ kreyvium_emitted_mults inst m idx wh wired e),
    )

-- ---- Demand 3

-- Gluing accepts netlists where one's outputs number the next one's inputs, together at most 262,144 gates, with room lent (Fit);
-- and the glued netlist answers as the second does on the first's outputs, for every input.
pub glued_answers : (a b out x vals outs vals₂ outs₂ vals₃ outs₃ : List ℕ) {q r s t : Answer} {out' vals' outs' vals₂' outs₂' vals₃' outs₃' : List ℕ}
    → Fit a b (length out) → Bits (inputs_of a) x
    → inputs_of a + gates_of a ≤ length vals → outputs_of a ≤ length outs
    → inputs_of b + gates_of b ≤ length vals₂ → outputs_of b ≤ length outs₂
    → inputs_of a + (gates_of a + gates_of b) ≤ length vals₃ → outputs_of b ≤ length outs₃
    → GluedAs a b out q out'
    → Evaluated a x vals outs r vals' outs'
    → Evaluated b (take (outputs_of a) outs') vals₂ outs₂ s vals₂' outs₂'
    → Evaluated (take (length (glued_words a b)) out') x vals₃ outs₃ t vals₃' outs₃'
    → (q ≡ Ok tt) × (r ≡ Ok tt) × (s ≡ Ok tt) × (t ≡ Ok tt) × (take (outputs_of b) outs₃' ≡ take (outputs_of b) outs₂')
glued_answers a b out x vals outs vals₂ outs₂ vals₃ outs₃ f bits hv ho hv₂ ho₂ hv₃ ho₃ g u v w =
    let n = length out in
    let G = glued_words a b in
    let p = glue_accepts a b out g f in
    let first = outputs_front a a x x vals outs (outputs_of a) refl refl (outputs_count a x f.first)
    (ready_done a x (length vals) (length outs) record { sound = f.first; count = bits.size; bits = bits.bit; values = hv; outputs = ho }) u in
    let second = outputs_front b b _ (eval (net_of a) x) vals₂ outs₂ (outputs_of b) refl first.1 (outputs_count b _ f.second)
    (second_ready a b n f x (length vals₂) (length outs₂) bits.bit hv₂ ho₂) v in
    let same = glued_evaluates a b n f x bits.size in
    let both = outputs_front _ G x x vals₃ outs₃ (outputs_of b) (front_of G out (length G) refl p.1) refl (ap length same ∙ outputs_count b _ f.second)
    (glued_ready a b n f x (length vals₃) (length outs₃) bits.size bits.bit hv₃ ho₃) w in
    (p.0, first.0, second.0, both.0, both.1 ∙ same ∙ sym second.1)

-- Depth is at most the sum of the two depths; multiplications are exactly the sum.
pub glued_metered : (a b : List ℕ) (n : ℕ) {r s t : Metered} → Fit a b n
    → MeterCall a r → MeterCall b s → MeterCall (glued_words a b) t
    → (r.answer ≡ Ok tt) × (s.answer ≡ Ok tt) × (t.answer ≡ Ok tt)
    × (t.depth ≤ r.depth + s.depth) × (t.multiplications ≡ r.multiplications + s.multiplications)
glued_metered a b n {r} {s} {t} f x y z =
    let g = glued_sound a b n f in (
      meter_accepts a r f.first x,
      meter_accepts b s f.second y,
      meter_accepts (glued_words a b) t g z,
      omega (arith, depth_is a r f.first x, depth_is b s f.second y, depth_is (glued_words a b) t g z, glued_depth a b n f),
      omega (arith, mults_is a r f.first x, mults_is b s f.second y, mults_is (glued_words a b) t g z, glued_mults a b n f),
    )

-- Gluing three gives the same words in either grouping: both are accepted with the same room.
pub three_glued : (a b c : List ℕ) (n : ℕ) → FitThree a b c n
    → (glue_answer (glued_words a b) c n ≡ Ok tt) × (glue_answer a (glued_words b c) n ≡ Ok tt) × (glued_words (glued_words a b) c ≡ glued_words a (glued_words b c))
three_glued a b c n t = (front-first a b c n t, back-first a b c n t, grouping a b c n t)

-- A pass-through, where one fits the output limit, changes no word, before a netlist and after it: gluing accepts it.
pub pass_changes_nothing : (a : List ℕ) → Sound a
    → (inputs_of a ≤ output_limit → (glue_answer (words (pass (inputs_of a))) a (length a) ≡ Ok tt) × (glued_words (words (pass (inputs_of a))) a ≡ a))
    × ((glue_answer a (words (pass (outputs_of a))) (length a) ≡ Ok tt) × (glued_words a (words (pass (outputs_of a))) ≡ a))
pass_changes_nothing a s = (λ h. pass_before a s h, pass_after a s)

-- So a score from the enciphered record equals the score from the plain one. encipher leaves the enciphered record, emit_decipher
-- the deciphering netlist, and glue the scoring netlist behind it; evaluated on the key and the enciphered record, that gives what
-- evaluating the scoring netlist on the plain record gives.
module _ (inst m : ℕ) (key rec idx wh : List ℕ) (wired : Wired inst m idx wh) (keyed : Keyed inst key) (bits : Bits m rec) where
  abbrev K : List ℕ
  K = key_in inst key

  abbrev W : List ℕ
  W = net_words inst m idx wh

  pub score_of_calls : (score enc out glued vals outs vals₂ outs₂ : List ℕ) {a b c d e : Answer} {enc' out' glued' vals' outs' vals₂' outs₂' : List ℕ}
      → Scores inst m idx wh score
      → m ≤ length enc → length W ≤ length out → glued_size W score ≤ length glued
      → inputs_of W + (gates_of W + gates_of score) ≤ length vals → outputs_of score ≤ length outs
      → inputs_of score + gates_of score ≤ length vals₂ → outputs_of score ≤ length outs₂
      → Ciphered inst m key rec idx wh enc a enc'
      → Emitted (decipher_answer inst m idx wh (length out)) (decipher_net inst m idx wh) out b out'
      → GluedAs (take (length W) out') score glued c glued'
      → Evaluated (take (length (glued_words W score)) glued') (K ++ take m enc') vals outs d vals' outs'
      → Evaluated score rec vals₂ outs₂ e vals₂' outs₂'
      → (a ≡ Ok tt) × (b ≡ Ok tt) × (c ≡ Ok tt) × (d ≡ Ok tt) × (e ≡ Ok tt) × (take (outputs_of score) outs' ≡ take (outputs_of score) outs₂')
  score_of_calls score enc out glued vals outs vals₂ outs₂ {a} {b} {c} {d} {e} {enc'} {out'} {glued'} {vals'} {outs'} {vals₂'} {outs₂'} s he hn hg hv ho hv₂ ho₂ x y z v u =
      let sealed = encipher_of inst m K rec idx wh in
      let G = glued_words W score in
      let f = score_fits inst m idx wh wired score (length glued) s hg in
      let p = encipher_gives inst m idx wh wired key keyed rec enc bits he x in
      let w = words_left inst m idx wh wired out hn y in
      let g = glue_accepts W score glued (rw w.1 at z) f in
      let tg : take (length G) glued' ≡ G = front_of G glued (length G) refl g.1 in
      let te : K ++ take m enc' ≡ K ++ sealed =
      ap (λ (l : List ℕ). K ++ l) (front_of sealed enc m (enciphered inst m idx wh wired key keyed rec bits).size p.1) in
      let same : eval (net_of G) (K ++ sealed) ≡ eval (net_of score) rec =
      scores_same inst m idx wh wired K rec (inputs_of_lem inst m key rec keyed bits) score (length glued) f in
      let n = outputs_count score rec s.sound in
      let o = outputs_front (take (length G) glued') G (K ++ take m enc') (K ++ sealed) vals outs (outputs_of score) tg te (ap length same ∙ n) (score_ready inst m idx wh wired key rec keyed bits score (length glued) (length vals) (length outs) f hv ho) v in
      let k = outputs_front score score rec rec vals₂ outs₂ (outputs_of score) refl refl n (plain_ready inst m idx wh wired key rec keyed bits score (length vals₂) (length outs₂) s hv₂ ho₂) u in
      (p.0, w.0, g.0, o.0, k.0, o.1 ∙ same ∙ sym k.1)

  -- The same of the whole path as one call: it is done, and its scores are the scoring netlist's outputs on the plain record.
  pub path_scores : (score enc out glued inp vals outs : List ℕ) {r : Answer} {enc' out' glued' inp' vals' outs' : List ℕ}
      → Scores inst m idx wh score
      → m ≤ length enc → length W ≤ length out → glued_size W score ≤ length glued → key_bits inst + m ≤ length inp
      → key_bits inst + m + (gates_of W + gates_of score) ≤ length vals → outputs_of score ≤ length outs
      → Scored inst m key rec idx wh score enc out glued inp vals outs r enc' out' glued' inp' vals' outs'
      → (r ≡ Ok tt) × (take (outputs_of score) outs' ≡ eval (net_of score) rec)
  unfolding score_answer results_answer rooms_answer
  path_scores score enc out glued inp vals outs {r} {enc'} {out'} {glued'} {inp'} {vals'} {outs'} s he hd hg hi hv ho x =
      let rooms = both (done_room 6 _ _ he) (both (done_room 7 _ _ hd) (both (done_room 8 _ _ hg) (both (done_room 9 _ _ hi) (both (done_room 10 _ _ hv) (done_room 11 _ _ ho))))) in
      let fits = both (refuse_not reasons.Fit 0 0 (ap not (eq-eqb m _ (sym s.inputs)))) (refuse_not reasons.Gates 0 0 (le-ltb _ _ s.few)) in
      let e : r ≡ Ok tt =
      x.answered
      ∙ both (encipher_accepted inst m key rec idx wh m wired keyed bits (omega arith)) (both (sound_done 5 score s.sound) (both rooms fits)) in
      (e, front_of _ outs (outputs_of score) (outputs_count score rec s.sound) (x.scores ∙ sym (made _ _ e)))
