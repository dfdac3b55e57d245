-- Stores that follow one another, and the whole netlist's words.
use Prim.Native.Nat.{ℕ, suc, ◌+◌, ◌*◌, ◌≤◌, ◌<◌}
use mathlib.Core.Path.{◌≡◌, refl, sym, ap, ◌∙◌}
use mathlib.Core.List.{List, [], ◌∷◌, ◌++◌, append_assoc}
use native.Mathlib.Omega.{arith}
use native.Mathlib.Numerals.{add-one}
use lib.ListN.{length, get_or, set, drop, length-append, drop_of_length-le}
use lib.Seq.{sets, set-set, set_comm, length-sets, drop-cons}
use Rattle.answer.specs.Fronts.{over}
use Rattle.answer.proofs.Over.{over-front}
use Rattle.netlist.specs.declared.counts.Counts.{Counts}
use Rattle.netlist.specs.declared.gate.Gate.{Gate}
use Rattle.netlist.specs.Gates.{gate_words}
use Rattle.netlist.specs.Net.{Net}
use Rattle.netlist.specs.Words.{header_words, gate_place, header, word_count, gates_words, net_counts, words}
use Rattle.netlist.proofs.Gates.{gate_words-length}
use Rattle.netlist.proofs.Words.{gates_words-length}
use Rattle.netlist.specs.Put.{put_gates}

pub put_append : (gs hs : List Gate) (out : List ℕ) (i j : ℕ) → j ≡ i + 4 * length gs → put_gates (put_gates out i gs) j hs ≡ put_gates out i (gs ++ hs)
unfolding put_gates
put_append [] hs out i j h = ap (λ (n : ℕ). put_gates out n hs) (omega arith)
put_append (g ∷ gs) hs out i j h = put_append gs hs (sets out i (gate_words g)) (i + 4) j (omega arith)

pub put_length : (gs : List Gate) (out : List ℕ) (at : ℕ) → length (put_gates out at gs) ≡ length out
unfolding put_gates
put_length [] out at = refl
put_length (g ∷ gs) out at = put_length gs (sets out at (gate_words g)) (at + 4) ∙ length-sets out at (gate_words g)

pub put_one : (g : Gate) (out : List ℕ) (at : ℕ) → put_gates out at (g ∷ []) ≡ sets out at (gate_words g)
unfolding put_gates
put_one g out at = refl

-- ---- a gate stored where another one will be is lost
set_below : (vs l : List ℕ) (i j x : ℕ) → i < j → set (sets l j vs) i x ≡ sets (set l i x) j vs
set_below [] l i j x h = refl
set_below (v ∷ vs) l i j x h =
    set_below vs (set l j v) i (suc j) x (omega arith) ∙ ap (λ (z : List ℕ). sets z (suc j) vs) (set_comm l j i v x (λ e. omega arith))

sets_over : (vs ws l : List ℕ) (i : ℕ) → length vs ≡ length ws → sets (sets l i vs) i ws ≡ sets l i ws
sets_over [] ws l i e = refl
sets_over (v ∷ vs) [] l i e = absurd (omega arith)
sets_over (v ∷ vs) (w ∷ ws) l i e =
    ap (λ (z : List ℕ). sets z (suc i) ws) (set_below vs (set l i v) i (suc i) w (omega arith) ∙ ap (λ (z : List ℕ). sets z (suc i) vs) (set-set l i v w))
    ∙ sets_over vs ws (set l i w) (suc i) (omega arith)

gate_over : (g h : Gate) (out : List ℕ) (i : ℕ) → sets (sets out i (gate_words g)) i (gate_words h) ≡ sets out i (gate_words h)
gate_over g h out i = sets_over (gate_words g) (gate_words h) out i (gate_words-length g ∙ sym (gate_words-length h))

pub put_over : (gs : List Gate) (g h : Gate) (out : List ℕ) (i : ℕ) → put_gates (sets out i (gate_words g)) i (gs ++ h ∷ []) ≡ put_gates out i (gs ++ h ∷ [])
unfolding put_gates
put_over [] g h out i = gate_over g h out i
put_over (x ∷ gs) g h out i = ap (λ (o : List ℕ). put_gates o (i + 4) (gs ++ h ∷ [])) (gate_over g x out i)

-- gates stored but for the next one's words: once any gate is stored there, all is as it should be
abbrev pub Awaits : List ℕ → ℕ → List Gate → List ℕ → Type 0
Awaits out at gs o = (g : Gate) → put_gates o (at + 4 * length gs) (g ∷ []) ≡ put_gates out at (gs ++ g ∷ [])

-- and then a run that is not empty
pub awaited : (gs hs : List Gate) (g : Gate) (out o : List ℕ) (at i : ℕ) → Awaits out at gs o → i ≡ at + 4 * length gs → put_gates o i (hs ++ g ∷ []) ≡ put_gates out at (gs ++ (hs ++ g ∷ []))
unfolding put_gates
awaited gs [] g out o at i a e = ap (λ (k : ℕ). put_gates o k (g ∷ [])) e ∙ a g
awaited gs (h ∷ hs) g out o at i a e =
    ap (λ (k : ℕ). put_gates (put_gates o k (h ∷ [])) (k + 4) (hs ++ g ∷ [])) e
    ∙ ap (λ (z : List ℕ). put_gates z (at + 4 * length gs + 4) (hs ++ g ∷ [])) (a h)
    ∙ put_append (gs ++ h ∷ []) (hs ++ g ∷ []) out at (at + 4 * length gs + 4) (omega (arith, length-append gs (h ∷ [])))
    ∙ ap (put_gates out at) (append_assoc gs (h ∷ []) (hs ++ g ∷ []))

-- one run of gates, or one gate, from where the last one ended
pub more : (out o₁ o₂ : List ℕ) (i j : ℕ) (gs hs : List Gate) → o₁ ≡ put_gates out i gs → o₂ ≡ put_gates o₁ j hs → j ≡ i + 4 * length gs → o₂ ≡ put_gates out i (gs ++ hs)
more out o₁ o₂ i j gs hs p q h = q ∙ ap (λ (o : List ℕ). put_gates o j hs) p ∙ put_append gs hs out i j h

pub next : (out o₁ o₂ : List ℕ) (i j : ℕ) (gs : List Gate) (g : Gate) → o₁ ≡ put_gates out i gs → o₂ ≡ sets o₁ j (gate_words g) → j ≡ i + 4 * length gs → o₂ ≡ put_gates out i (gs ++ g ∷ [])
next out o₁ o₂ i j gs g p q h = more out o₁ o₂ i j gs (g ∷ []) p (q ∙ sym (put_one g o₁ j)) h

-- words copied one after the other
pub copy_turn : (out ws : List ℕ) (i j : ℕ) → j < length ws → sets (set out i (get_or ws j 0)) (i + 1) (drop (j + 1) ws) ≡ sets out i (drop j ws)
copy_turn out ws i j h = rw (add-one i, add-one j, drop-cons ws j 0 h)

pub copy_end : (out ws : List ℕ) (i j : ℕ) → length ws ≤ j → sets out i (drop j ws) ≡ out
copy_end out ws i j h = rw (drop_of_length-le ws h)

-- ---- header, gates and outputs
pub sets-append : (xs l ys : List ℕ) (i : ℕ) → sets l i (xs ++ ys) ≡ sets (sets l i xs) (i + length xs) ys
sets-append [] l ys i = let e : i ≡ i + 0 = omega arith in ap (λ (n : ℕ). sets l n ys) e
sets-append (x ∷ xs) l ys i =
    let e : suc i + length xs ≡ i + suc (length xs) = omega arith in
    sets-append xs (set l i x) ys (suc i) ∙ ap (λ (n : ℕ). sets (sets (set l i x) (suc i) xs) n ys) e

words_put : (gs : List Gate) (out ws : List ℕ) (at : ℕ) → sets out at (gates_words gs ++ ws) ≡ sets (put_gates out at gs) (at + 4 * length gs) ws
unfolding put_gates
words_put [] out ws at = let e : at ≡ at + 4 * 0 = omega arith in ap (λ (n : ℕ). sets out n ws) e
words_put (g ∷ gs) out ws at =
    let e : at + 4 + 4 * length gs ≡ at + 4 * suc (length gs) = omega arith in
    ap (sets out at) (append_assoc (gate_words g) (gates_words gs) ws)
    ∙ sets-append (gate_words g) out (gates_words gs ++ ws) at
    ∙ ap (λ (n : ℕ). sets (sets out at (gate_words g)) (at + n) (gates_words gs ++ ws)) (gate_words-length g)
    ∙ words_put gs (sets out at (gate_words g)) ws (at + 4)
    ∙ ap (λ (n : ℕ). sets (put_gates (sets out at (gate_words g)) (at + 4) gs) n ws) e

pub words-length : (n : Net) → length (words n) ≡ word_count (net_counts n)
words-length n = omega (arith, length-append (gates_words n.gates) n.outs, gates_words-length n.gates)

-- stored one after the other they are the netlist's words, written over what was lent
pub net_put : (n : Net) (out o₁ o₂ o₃ : List ℕ) (c : Counts) (at : ℕ) → c ≡ net_counts n
    → at ≡ gate_place (length n.gates) → length (words n) ≤ length out
    → o₁ ≡ sets out 0 (header c) → o₂ ≡ put_gates o₁ header_words n.gates → o₃ ≡ sets o₂ at n.outs → o₃ ≡ over (words n) out
net_put n out o₁ o₂ o₃ c at ec ea room e₁ e₂ e₃ =
    e₃
    ∙ (λ k. sets (e₂ k) (ea k) n.outs)
    ∙ (λ k. sets (put_gates (e₁ k) header_words n.gates) (gate_place (length n.gates)) n.outs)
    ∙ (λ k. sets (put_gates (sets out 0 (header (ec k))) header_words n.gates) (gate_place (length n.gates)) n.outs)
    ∙ sym (words_put n.gates (sets out 0 (header (net_counts n))) n.outs header_words)
    ∙ over-front (words n) out room
