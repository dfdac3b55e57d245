-- What calls in a row give: an emitted netlist evaluated, and a scoring netlist glued behind it and evaluated. The wiring, the
-- key and the record are any that the rules let a caller lend, and every list has room: that the calls are done is said, not
-- supposed.
use Prim.Native.Nat.{ℕ, ◌+◌, ◌≤◌}
use mathlib.Core.Path.{◌≡◌, refl, sym, ap, ◌∙◌}
use mathlib.Core.List.{List, ◌++◌}
use native.Mathlib.Omega.{arith}
use lib.ListN.{length, take, length-map}
use Rattle.std.specs.Prelude.{Ok}
use Rattle.answer.specs.Answers.{Answer}
use Rattle.answer.proofs.Over.{made}
use Rattle.netlist.specs.Net.{Net, at, run, val_alg, eval}
use Rattle.netlist.specs.Words.{inputs_of, gates_of, outputs_of, net_of}
use Rattle.netlist.specs.Sound.{Sound}
use Rattle.netlist.specs.Emitted.{Emitted}
use Rattle.netlist.proofs.Words.{net_of-words, outs_length}
use Rattle.instance.specs.Wired.{Wired, Bits}
use Rattle.instance.specs.Keys.{Keyed, key_in}
use Rattle.cipher.specs.Cipher.{encipher_of}
use Rattle.evaluate.specs.Evaluate.{evaluate_answer, Evaluated}
use Rattle.evaluate.proofs.Accepted.{ready_done}
use Rattle.glue.specs.Glue.{glued_size, glued_words, Fit}
use Rattle.emit.specs.Emit.{decipher_net, decipher_answer}
use Rattle.emit.proofs.Emission.{emitted_sound, emitted_outputs}
use Rattle.wiring.specs.Rows.{Inputs}
use Rattle.path.proofs.Scores.{inputs_of_lem, emitted_evaluates, bits-both, both_count}
use Rattle.claims.specs.Demands.{net_words, Scores}
use Rattle.claims.proofs.Accepted.{front_of, emit_gives, enciphered}
use Rattle.claims.proofs.Evaluating.{glued_ready}

pub outputs_count : (net x : List ℕ) → Sound net → length (eval (net_of net) x) ≡ outputs_of net
outputs_count net x s = length-map (net_of net).outs (at val_alg (run val_alg x (net_of net).gates)) ∙ outs_length net s

-- what evaluating a netlist on bits gives, where both are what stands in lists that other calls left
pub outputs_front : (net net₀ x x₀ vals outs : List ℕ) (n : ℕ) {t : Answer} {vals' outs' : List ℕ} → net ≡ net₀ → x ≡ x₀ → length (eval (net_of net₀) x₀) ≡ n
    → evaluate_answer net₀ x₀ (length vals) (length outs) ≡ Ok tt → Evaluated net x vals outs t vals' outs'
    → (t ≡ Ok tt) × (take n outs' ≡ eval (net_of net₀) x₀)
outputs_front net net₀ x x₀ vals outs n {t} p q l d v =
    let e : t ≡ Ok tt = v.answered ∙ rw (p, q) d in
    (e, front_of (eval (net_of net₀) x₀) outs n l (v.given ∙ sym (made _ _ e) ∙ rw (p, q)))

module _ (inst m : ℕ) (idx wh : List ℕ) where
  abbrev W : List ℕ
  W = net_words inst m idx wh

  module _ (wired : Wired inst m idx wh) where
    -- emit_decipher leaves the netlist's words at the front of its result
    pub words_left : (out : List ℕ) {r : Answer} {out' : List ℕ} → length W ≤ length out
        → Emitted (decipher_answer inst m idx wh (length out)) (decipher_net inst m idx wh) out r out'
        → (r ≡ Ok tt) × (take (length W) out' ≡ W)
    words_left out h x =
        let g = emit_gives inst m idx wh wired out h x in
        (g.0, front_of W out (length W) refl g.1)

    pub score_fits : (score : List ℕ) (room : ℕ) → Scores inst m idx wh score → glued_size W score ≤ room → Fit W score room
    score_fits score room s space =
        record {
          first = emitted_sound inst m idx wh wired;
          second = s.sound;
          space = space;
          fits = emitted_outputs inst m idx wh wired ∙ sym s.inputs;
          few = s.few;
        }

    module _ (key rec : List ℕ) (keyed : Keyed inst key) (bits : Bits m rec) where
      -- the key's bits
      abbrev K : List ℕ
      K = key_in inst key

      given : Inputs inst m K rec
      given = inputs_of_lem inst m key rec keyed bits

      -- the calls of evaluation: on the key and the record, and with a scoring netlist on the key and the enciphered record
      pub decipher_ready : (v o : ℕ) → inputs_of W + gates_of W ≤ v → m ≤ o → evaluate_answer W (K ++ rec) v o ≡ Ok tt
      decipher_ready v o hv ho =
          ready_done W (K ++ rec) v o
          record {
            sound = emitted_sound inst m idx wh wired;
            count = both_count inst m idx wh wired K rec given;
            bits = bits-both K rec given.key_bit bits.bit;
            values = hv;
            outputs = omega (arith, emitted_outputs inst m idx wh wired);
          }

      pub score_ready : (score : List ℕ) (room v o : ℕ) → Fit W score room → inputs_of W + (gates_of W + gates_of score) ≤ v → outputs_of score ≤ o
          → evaluate_answer (glued_words W score) (K ++ encipher_of inst m K rec idx wh) v o ≡ Ok tt
      score_ready score room v o f hv ho =
          let e = encipher_of inst m K rec idx wh in
          let b = enciphered inst m idx wh wired key keyed rec bits in
          glued_ready W score room f (K ++ e) v o (both_count inst m idx wh wired K e (inputs_of_lem inst m key e keyed b)) (bits-both K e given.key_bit b.bit) hv ho

      pub plain_ready : (score : List ℕ) (v o : ℕ) → Scores inst m idx wh score → inputs_of score + gates_of score ≤ v → outputs_of score ≤ o → evaluate_answer score rec v o ≡ Ok tt
      plain_ready score v o s hv ho =
          ready_done score rec v o
          record { sound = s.sound; count = bits.size ∙ sym s.inputs; bits = bits.bit; values = hv; outputs = ho }

      -- Evaluated on the key's bits and the record, the emitted words give the deciphered record.
      pub emitted_gives : (out vals outs : List ℕ) {q t : Answer} {out' vals' outs' : List ℕ}
          → length W ≤ length out → inputs_of W + gates_of W ≤ length vals → m ≤ length outs
          → Emitted (decipher_answer inst m idx wh (length out)) (decipher_net inst m idx wh) out q out'
          → Evaluated (take (length W) out') (K ++ rec) vals outs t vals' outs'
          → (q ≡ Ok tt) × (t ≡ Ok tt) × (take m outs' ≡ encipher_of inst m K rec idx wh)
      emitted_gives out vals outs {q} {t} {out'} {vals'} {outs'} hn hv ho x v =
          let w = words_left out hn x in
          let p : eval (net_of W) (K ++ rec) ≡ encipher_of inst m K rec idx wh =
          ap (λ (net : Net). eval net (K ++ rec)) (net_of-words (decipher_net inst m idx wh))
          ∙ emitted_evaluates inst m idx wh wired K rec given in
          let n = ap length p ∙ (enciphered inst m idx wh wired key keyed rec bits).size in
          let e = outputs_front (take (length W) out') W (K ++ rec) (K ++ rec) vals outs m w.1 refl n (decipher_ready (length vals) (length outs) hv ho) v in
          (w.0, e.0, e.1 ∙ p)
