-- What gluing gives, over the definitions that promises cite. The netlists are words.
use Prim.Native.Nat.{ℕ, ◌+◌, ◌≤◌}
use mathlib.Core.Path.{◌≡◌, refl, sym, ap, subst, ◌∙◌}
use mathlib.Core.List.{List}
use native.Mathlib.Omega.{arith}
use lib.ListN.{length}
use Rattle.std.specs.Prelude.{Ok}
use Rattle.answer.specs.Answers.{Answer}
use Rattle.answer.specs.Fronts.{over}
use Rattle.answer.proofs.Over.{made}
use Rattle.netlist.specs.Net.{Net, eval, depth, mults}
use Rattle.netlist.specs.Words.{header_words, inputs_of, gates_of, outputs_of, words, net_of}
use Rattle.netlist.specs.Glue.{glue, up_from, pass}
use Rattle.netlist.specs.Check.{output_limit, net_answer}
use Rattle.netlist.specs.Sound.{Sound}
use Rattle.netlist.proofs.Accepted.{sound_done}
use Rattle.netlist.proofs.Glued.{glue_gates, glue_outputs, glue_valid, glue-eval, glue-depth, glue-mults, glue-glue, pass_valid, pass-glue, glue-pass, up_from-length}
use Rattle.netlist.proofs.Words.{gates_length, outs_length, sound_valid, words-net_of, net_of-words, valid_sound}
use Rattle.glue.specs.Glue.{glued_size, glue_answer, glued_words, GluedAs, Fit, FitThree}
use Rattle.glue.proofs.Accepted.{fit_done}

-- Gluing accepts them and writes the glued netlist, which is accepted.
pub glue_accepts : (a b out : List ℕ) {r : Answer} {out' : List ℕ} → GluedAs a b out r out' → Fit a b (length out)
    → (r ≡ Ok tt) × (out' ≡ over (glued_words a b) out)
glue_accepts a b out g f =
    let e = g.answered ∙ fit_done a b (length out) f in
    (e, g.written ∙ sym (made _ _ e))

module _ (a b : List ℕ) (n : ℕ) (f : Fit a b n) where
  pub glued_gates : gates_of (glued_words a b) ≡ gates_of a + gates_of b
  glued_gates =
      omega (arith, glue_gates (net_of a) (net_of b), gates_length a header_words (gates_of a), gates_length b header_words (gates_of b))

  pub glued_outputs : outputs_of (glued_words a b) ≡ outputs_of b
  glued_outputs = glue_outputs (net_of a) (net_of b) ∙ outs_length b f.second

  pub fitting : length (net_of a).outs ≡ (net_of b).inputs
  fitting = outs_length a f.first ∙ f.fits

  pub glued_sound : Sound (glued_words a b)
  glued_sound =
      valid_sound (glue (net_of a) (net_of b))
      (glue_valid (net_of a) (net_of b) (sound_valid a f.first) (sound_valid b f.second) fitting)
      record {
        inputs = f.first.limits.inputs;
        gates = omega (arith, glued_gates, f.few);
        outputs = omega (arith, glued_outputs, f.second.limits.outputs);
      }

  pub glued_accepted : (l : ℕ) → net_answer l (glued_words a b) ≡ Ok tt
  glued_accepted l = sound_done l (glued_words a b) glued_sound

  -- It answers as the second does on the first's outputs, for every input.
  pub glued_evaluates : (x : List ℕ) → length x ≡ inputs_of a → eval (net_of (glued_words a b)) x ≡ eval (net_of b) (eval (net_of a) x)
  glued_evaluates x e =
      ap (λ (m : Net). eval m x) (net_of-words (glue (net_of a) (net_of b)))
      ∙ glue-eval (net_of a) (net_of b) (sound_valid a f.first) (sound_valid b f.second) fitting x e

  -- Depth is at most the sum, multiplications are exactly the sum.
  pub glued_depth : depth (net_of (glued_words a b)) ≤ depth (net_of a) + depth (net_of b)
  glued_depth =
      subst (λ (m : Net). depth m ≤ depth (net_of a) + depth (net_of b)) (sym (net_of-words (glue (net_of a) (net_of b))))
      (glue-depth (net_of a) (net_of b) (sound_valid a f.first) (sound_valid b f.second) fitting)

  pub glued_mults : mults (net_of (glued_words a b)) ≡ mults (net_of a) + mults (net_of b)
  glued_mults = ap mults (net_of-words (glue (net_of a) (net_of b))) ∙ glue-mults (net_of a) (net_of b)

-- Gluing three: either grouping is accepted, and both give the same words.
module _ (a b c : List ℕ) (n : ℕ) (t : FitThree a b c n) where
  front_fit : Fit a b (glued_size a b)
  front_fit = record { first = t.first; second = t.second; space = omega arith; fits = t.fits; few = omega (arith, t.few) }

  back_fit : Fit b c (glued_size b c)
  back_fit = record { first = t.second; second = t.third; space = omega arith; fits = t.fits'; few = omega (arith, t.few) }

  pub front-first : glue_answer (glued_words a b) c n ≡ Ok tt
  front-first =
      fit_done (glued_words a b) c n
      record {
        first = glued_sound a b _ front_fit;
        second = t.third;
        space = omega (arith, glued_gates a b _ front_fit, t.space);
        fits = glued_outputs a b _ front_fit ∙ t.fits';
        few = omega (arith, glued_gates a b _ front_fit, t.few);
      }

  pub back-first : glue_answer a (glued_words b c) n ≡ Ok tt
  back-first =
      fit_done a (glued_words b c) n
      record {
        first = t.first;
        second = glued_sound b c _ back_fit;
        space = omega (arith, glued_gates b c _ back_fit, glued_outputs b c _ back_fit, t.space);
        fits = t.fits;
        few = omega (arith, glued_gates b c _ back_fit, t.few);
      }

  pub grouping : glued_words (glued_words a b) c ≡ glued_words a (glued_words b c)
  grouping =
      ap (λ (m : Net). words (glue m (net_of c))) (net_of-words (glue (net_of a) (net_of b)))
      ∙ ap words (glue-glue (net_of a) (net_of b) (net_of c) (fitting a b _ front_fit))
      ∙ sym (ap (λ (m : Net). words (glue (net_of a) m)) (net_of-words (glue (net_of b) (net_of c))))

-- A pass-through, where one fits the output limit, is accepted and changes no word, before a netlist and after it.
pub pass_sound : (n : ℕ) → n ≤ output_limit → Sound (words (pass n))
pass_sound n h =
    valid_sound (pass n) (pass_valid n)
    record { inputs = omega arith; gates = omega arith; outputs = omega (arith, up_from-length 0 n) }

pub pass_before : (b : List ℕ) → Sound b → inputs_of b ≤ output_limit
    → (glue_answer (words (pass (inputs_of b))) b (length b) ≡ Ok tt) × (glued_words (words (pass (inputs_of b))) b ≡ b)
pass_before b s h = (
  fit_done _ b (length b)
      record {
        first = pass_sound (inputs_of b) h;
        second = s;
        space = omega (arith, s.size);
        fits = up_from-length 0 (inputs_of b);
        few = omega (arith, s.limits.gates);
      },
  ap (λ (m : Net). words (glue m (net_of b))) (net_of-words (pass (inputs_of b))) ∙ ap words (pass-glue (net_of b)) ∙ words-net_of b s,
)

pub pass_after : (a : List ℕ) → Sound a
    → (glue_answer a (words (pass (outputs_of a))) (length a) ≡ Ok tt) × (glued_words a (words (pass (outputs_of a))) ≡ a)
pass_after a s =
    let l : length (up_from 0 (outputs_of a)) ≡ outputs_of a = up_from-length 0 (outputs_of a) in (
      fit_done a _ (length a)
          record {
            first = s;
            second = pass_sound (outputs_of a) s.limits.outputs;
            space = omega (arith, s.size);
            fits = refl;
            few = omega (arith, s.limits.gates);
          },
      ap (λ (m : Net). words (glue (net_of a) m)) (net_of-words (pass (outputs_of a)))
          ∙ ap (λ (k : ℕ). words (glue (net_of a) (pass k))) (sym (outs_length a s))
          ∙ ap words (glue-pass (net_of a))
          ∙ words-net_of a s,
    )
