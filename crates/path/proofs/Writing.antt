-- What score's steps make, one after the other, where all is judged.
use Prim.Native.Nat.{ℕ, ◌+◌, ◌≤◌}
use mathlib.Core.Path.{◌≡◌, refl, sym, ap, subst, ◌∙◌}
use mathlib.Core.List.{List, ◌++◌}
use native.Mathlib.Omega.{arith}
use lib.ListN.{length, take, length-append}
use Rattle.std.specs.Prelude.{Ok, Err}
use Rattle.answer.specs.declared.Refusal.{Refusal}
use Rattle.answer.specs.Answers.{Answer}
use Rattle.answer.specs.Fronts.{over}
use Rattle.answer.proofs.Over.{take-over, length_over, kept, made}
use Rattle.netlist.specs.Net.{Net, values, eval}
use Rattle.netlist.specs.Words.{word_count, words, net_of}
use Rattle.netlist.specs.Glue.{glue}
use Rattle.netlist.specs.Emitted.{Emitted}
use Rattle.netlist.proofs.Words.{counts_over}
use Rattle.netlist.proofs.Puts.{words-length}
use Rattle.instance.specs.Table.{key_bits}
use Rattle.instance.specs.Wired.{Wired}
use Rattle.instance.specs.Keys.{Keyed, key_in}
use Rattle.instance.proofs.Keys.{key_size}
use Rattle.cipher.specs.Cipher.{Ciphered}
use Rattle.wiring.specs.Rows.{Inputs}
use Rattle.evaluate.specs.Evaluate.{Evaluated}
use Rattle.evaluate.specs.Ready.{Ready}
use Rattle.evaluate.proofs.Accepted.{ready_done}
use Rattle.glue.specs.Glue.{glued_words, Fit}
use Rattle.glue.proofs.Gluing.{glued_sound, glued_gates, glued_outputs}
use Rattle.emit.specs.Emit.{decipher_net, decipher_answer}
use Rattle.emit.proofs.Emission.{emitted_inputs}
use Rattle.path.specs.Path.{decipher_words, score_words, sealed, score_inputs, score_answer, rooms_of, Scored}
use Rattle.path.specs.Inner.{front_size, front}
use Rattle.path.proofs.Scores.{inputs_of_lem, bits-both, encipher_length, encipher_inputs, scores_same}
use Rattle.path.proofs.Accepted.{Spacious, fitting, wired, keyed, bits, encipher_done, emit_done, glue_fit}

-- the words counted are the front
pub front_is : (ws : List ℕ) (n : ℕ) → n ≡ front_size ws → take n ws ≡ front ws
unfolding front
front_is ws n e = ap (λ (k : ℕ). take k ws) e

-- evaluation that is accepted
pub evaluated : (net inp vals outs : List ℕ) {r : Answer} {vals' outs' : List ℕ} → Ready net inp (length vals) (length outs) → Evaluated net inp vals outs r vals' outs'
    → (vals' ≡ over (values (net_of net) inp) vals) × (outs' ≡ over (eval (net_of net) inp) outs)
evaluated net inp vals outs h x =
    let e = x.answered ∙ ready_done net inp (length vals) (length outs) h in
    (x.filled ∙ sym (made _ _ e), x.given ∙ sym (made _ _ e))

-- a netlist's words written over a list stand at its front
words_size : (n : Net) → front_size (words n) ≡ length (words n)
words_size n = sym (words-length n)

size-over : (n : Net) (old : List ℕ) → front_size (over (words n) old) ≡ length (words n)
size-over n old = ap word_count (counts_over n old) ∙ words_size n

front-over : (n : Net) (old : List ℕ) → front (over (words n) old) ≡ words n
unfolding front
front-over n old = ap (λ (k : ℕ). take k (over (words n) old)) (size-over n old) ∙ take-over (words n) old

whole_over : (n : Net) (old : List ℕ) → length (words n) ≤ length old → front_size (over (words n) old) ≤ length (over (words n) old)
whole_over n old h = omega (arith, size-over n old, length_over (words n) old h)

-- what a call is lent
pub record Call : Type 0 where
  pub inst : ℕ
  pub m : ℕ
  pub key : List ℕ
  pub rec : List ℕ
  pub idx : List ℕ
  pub wh : List ℕ
  pub score : List ℕ
  pub enc : List ℕ
  pub net : List ℕ
  pub glued : List ℕ
  pub inp : List ℕ
  pub vals : List ℕ
  pub out : List ℕ

-- a refusal changes nothing
pub unchanged : (q : Call) {r : Answer} {e : Refusal}
    → r ≡ score_answer q.inst q.m q.key q.rec q.idx q.wh q.score (rooms_of q.enc q.net q.glued q.inp q.vals q.out) → r ≡ Err e
    → Scored q.inst q.m q.key q.rec q.idx q.wh q.score q.enc q.net q.glued q.inp q.vals q.out r q.enc q.net q.glued q.inp q.vals q.out
unchanged q d h =
    record {
      answered = d;
      enciphers = kept _ q.enc h;
      emits = kept _ q.net h;
      glues = kept _ q.glued h;
      lends = kept _ q.inp h;
      evaluates = kept _ q.vals h;
      scores = kept _ q.out h;
    }

module _ (q : Call) (done : score_answer q.inst q.m q.key q.rec q.idx q.wh q.score (rooms_of q.enc q.net q.glued q.inp q.vals q.out) ≡ Ok tt) where
  -- what the steps make
  abbrev E : List ℕ
  E = sealed q.inst q.m q.key q.rec q.idx q.wh

  -- the key's bits
  abbrev K : List ℕ
  K = key_in q.inst q.key

  abbrev W : List ℕ
  W = decipher_words q.inst q.m q.idx q.wh

  abbrev G : List ℕ
  G = score_words q.inst q.m q.idx q.wh q.score

  abbrev X : List ℕ
  X = score_inputs q.inst q.m q.key q.rec q.idx q.wh

  space : Spacious q.inst q.m W q.score (rooms_of q.enc q.net q.glued q.inp q.vals q.out)
  space = (fitting q.inst q.m q.key q.rec q.idx q.wh q.score _ done).space

  wiring : Wired q.inst q.m q.idx q.wh
  wiring = wired q.inst q.m q.key q.rec q.idx q.wh q.score _ done

  pub key_lent : Keyed q.inst q.key
  key_lent = keyed q.inst q.m q.key q.rec q.idx q.wh q.score _ done

  given : Inputs q.inst q.m K q.rec
  given = inputs_of_lem q.inst q.m q.key q.rec key_lent (bits q.inst q.m q.key q.rec q.idx q.wh q.score _ done)

  fit : Fit W q.score (length q.glued)
  fit = glue_fit q.inst q.m q.key q.rec q.idx q.wh q.score _ done

  -- Enciphered and emitted.
  pub enciphered : {r : Answer} {enc' : List ℕ} → Ciphered q.inst q.m q.key q.rec q.idx q.wh q.enc r enc' → enc' ≡ over E q.enc
  enciphered c =
      c.written ∙ sym (made _ _ (c.answered ∙ encipher_done q.inst q.m q.key q.rec q.idx q.wh q.score _ done))

  pub emitted : {r : Answer} {net' : List ℕ}
      → Emitted (decipher_answer q.inst q.m q.idx q.wh (length q.net)) (decipher_net q.inst q.m q.idx q.wh) q.net r net' → net' ≡ over W q.net
  emitted c =
      c.written ∙ sym (made _ _ (c.answered ∙ emit_done q.inst q.m q.key q.rec q.idx q.wh q.score _ done))

  enc_count : length E ≡ q.m
  enc_count = encipher_length q.inst q.m q.idx q.wh wiring K q.rec given

  key_count : length K ≡ key_bits q.inst
  key_count = key_size q.inst q.key key_lent

  module _ {enc' net' : List ℕ} (e : enc' ≡ over E q.enc) (n : net' ≡ over W q.net) where
    enc_front : take q.m enc' ≡ E
    enc_front =
        ap (take q.m) e ∙ ap (λ (k : ℕ). take k (over E q.enc)) (sym enc_count) ∙ take-over _ q.enc

    pub enc_room : q.m ≤ length enc'
    enc_room =
        omega (arith, space.enciphered, ap length e, length_over E q.enc (omega (arith, enc_count, space.enciphered)))

    net_front : front net' ≡ W
    net_front = ap front n ∙ front-over (decipher_net q.inst q.m q.idx q.wh) q.net

    -- for gluing, and for the inputs
    pub net_ready : (front_size net' ≤ length net') × Fit (front net') q.score (length q.glued)
    net_ready = (
      subst (λ (l : List ℕ). front_size l ≤ length l) (sym n) (whole_over (decipher_net q.inst q.m q.idx q.wh) q.net space.deciphering),
      subst (λ (l : List ℕ). Fit l q.score (length q.glued)) (sym net_front) fit,
    )

    pub inputs_room : key_bits q.inst + length (take q.m enc') ≤ length q.inp
    inputs_room = omega (arith, ap length enc_front, enc_count, space.inputs)

    module _ {glued' inp' : List ℕ} (g : glued' ≡ over (glued_words (front net') q.score) q.glued) (i : inp' ≡ over (K ++ take q.m enc') q.inp) where
      glued_is : glued' ≡ over G q.glued
      glued_is = g ∙ ap (λ (l : List ℕ). over (glued_words l q.score) q.glued) net_front

      glued_front : front glued' ≡ G
      glued_front = ap front glued_is ∙ front-over (glue (net_of W) (net_of q.score)) q.glued

      glued_whole : front_size glued' ≤ length glued'
      glued_whole =
          subst (λ (l : List ℕ). front_size l ≤ length l) (sym glued_is)
          (whole_over (glue (net_of W) (net_of q.score)) q.glued
          (omega (arith, words_size (glue (net_of W) (net_of q.score)), glued_gates W q.score _ fit, glued_outputs W q.score _ fit, space.glued)))

      inp_is : inp' ≡ over X q.inp
      inp_is = i ∙ ap (λ (l : List ℕ). over (K ++ l) q.inp) enc_front

      count : length X ≡ key_bits q.inst + q.m
      count = length-append K E ∙ omega (arith, key_count, enc_count)

      inp_front : take (key_bits q.inst + q.m) inp' ≡ X
      inp_front =
          ap (take (key_bits q.inst + q.m)) inp_is ∙ ap (λ (k : ℕ). take k (over X q.inp)) (sym count) ∙ take-over _ q.inp

      -- for evaluation
      here_ready : Ready G X (length q.vals) (length q.out)
      here_ready =
          let h = encipher_inputs q.inst q.m q.idx q.wh wiring K q.rec given in
          let n = emitted_inputs q.inst q.m q.idx q.wh wiring in
          record {
            sound = glued_sound W q.score _ fit;
            count = count ∙ sym n;
            bits = bits-both K E h.key_bit h.rec_bit;
            values = omega (arith, n, glued_gates W q.score _ fit, space.wires);
            outputs = omega (arith, glued_outputs W q.score _ fit, space.scores);
          }

      pub glued_ready : (front_size glued' ≤ length glued') × (key_bits q.inst + q.m ≤ length inp') × Ready (front glued') (take (key_bits q.inst + q.m) inp') (length q.vals) (length q.out)
      glued_ready = (
        glued_whole,
        omega (arith, space.inputs, ap length inp_is, length_over X q.inp (omega (arith, count, space.inputs))),
        rw (glued_front, inp_front) here_ready,
      )

      -- All is written.
      pub scored : {vals' out' : List ℕ}
          → vals' ≡ over (values (net_of (front glued')) (take (key_bits q.inst + q.m) inp')) q.vals
          → out' ≡ over (eval (net_of (front glued')) (take (key_bits q.inst + q.m) inp')) q.out
          → Scored q.inst q.m q.key q.rec q.idx q.wh q.score q.enc q.net q.glued q.inp q.vals q.out (Ok tt) enc' net' glued' inp' vals' out'
      scored v o =
          record {
            answered = sym done;
            enciphers = e ∙ made _ _ refl;
            emits = n ∙ made _ _ refl;
            glues = glued_is ∙ made _ _ refl;
            lends = inp_is ∙ made _ _ refl;
            evaluates = v
                ∙ ap (λ (l : List ℕ). over (values (net_of l) (take (key_bits q.inst + q.m) inp')) q.vals) glued_front
                ∙ ap (λ (x : List ℕ). over (values (net_of G) x) q.vals) inp_front
                ∙ made _ _ refl;
            scores = o
                ∙ ap (λ (l : List ℕ). over (eval (net_of l) (take (key_bits q.inst + q.m) inp')) q.out) glued_front
                ∙ ap (λ (x : List ℕ). over (eval (net_of G) x) q.out) inp_front
                ∙ ap (λ (x : List ℕ). over x q.out) (scores_same q.inst q.m q.idx q.wh wiring K q.rec given q.score _ fit)
                ∙ made _ _ refl;
          }
