-- A round put, and the gates that remain.
use mathlib.Core.Path.{◌≡◌, refl, ap, ap₂, sym, ◌∙◌}
use mathlib.Core.List.{List, [], ◌∷◌, ◌++◌}
use Prim.Native.Nat.{ℕ, suc, ◌+◌, ◌-◌, ◌≤◌, ◌<◌}
use native.Mathlib.Omega.{arith}
use lib.Seq.{sets}
use Rattle.netlist.specs.declared.gate.Gate.{Gate}
use Rattle.netlist.specs.declared.gate.Gate.TheVariants.{Zero, One}
use Rattle.netlist.specs.Gates.{gate_words}
use Rattle.netlist.specs.Words.{header_words, gate_place}
use Rattle.netlist.specs.Put.{put_gates}
use Rattle.netlist.proofs.Puts.{put_append, more}
use Rattle.rounds.specs.Gates.{head_gates, out_gates, tail_gates, gates_from, move_wires, start_wires, kreyvium_gates}
use Rattle.register.specs.declared.wires.Taps.{Taps}
use Rattle.register.specs.InnerPlaces.{tail_at, registers_at, taps_of, head_of, tail_of}
use Rattle.register.specs.InnerRounds.{plain_at, plain_wire, plain_of, plain_rest, output_at, output_wire, output_of, output_rest}
use Rattle.register.proofs.Few.{two}

-- the code's calls make a round
pub plain_put : (m n : ℕ) (t : Taps) (at : ℕ) (out o₁ o₂ : List ℕ) → at ≡ plain_at n
    → o₁ ≡ put_gates out at (head_of (plain_wire m n) t) → o₂ ≡ put_gates o₁ (at + 16) (tail_of (plain_wire m n) (plain_wire m n + 4) t)
    → o₂ ≡ put_gates out (plain_at n) (plain_of m n t)
plain_put m n t at out o₁ o₂ e p q =
    more out o₁ o₂ at (at + 16) (head_of (plain_wire m n) t) (tail_of (plain_wire m n) (plain_wire m n + 4) t) p q refl
    ∙ ap (λ (i : ℕ). put_gates out i (plain_of m n t)) e

pub output_put : (m k : ℕ) (t : Taps) (at : ℕ) (out o₁ o₂ o₃ : List ℕ) → at ≡ output_at k
    → o₁ ≡ put_gates out at (head_of (output_wire m k) t)
    → o₂ ≡ put_gates o₁ (at + 16) (out_gates (output_wire m k) (output_wire m k + 4) (128 + k))
    → o₃ ≡ put_gates o₂ (at + 28) (tail_of (output_wire m k) (output_wire m k + 7) t)
    → o₃ ≡ put_gates out (output_at k) (output_of m k t)
output_put m k t at out o₁ o₂ o₃ e p q r =
    let w = output_wire m k in
    let outs = out_gates w (w + 4) (128 + k) in
    more out o₁ o₃ at (at + 16) (head_of w t) (outs ++ tail_of w (w + 7) t) p
    (more o₁ o₂ o₃ (at + 16) (at + 28) outs (tail_of w (w + 7) t) q r (omega arith)) refl
    ∙ ap (λ (i : ℕ). put_gates out i (output_of m k t)) e

tail_plain : (m n : ℕ) → n < 1152 → tail_at m n ≡ plain_wire m n + 4
unfolding tail_at
tail_plain m n h = omega arith

tail_output : (m k : ℕ) → tail_at m (1152 + k) ≡ output_wire m k + 7
unfolding tail_at
tail_output m k = omega arith

-- a turn of each loop
pub plain_turn : (iv : List ℕ) (m n : ℕ) (t : Taps) (out o : List ℕ) → n < 1152 → t ≡ taps_of (registers_at iv m n) → o ≡ put_gates out (plain_at n) (plain_of m n t)
    → put_gates o (plain_at (n + 1)) (plain_rest iv m (n + 1)) ≡ put_gates out (plain_at n) (plain_rest iv m n)
unfolding plain_rest gates_from registers_at
plain_turn iv m n t out o h et e =
    let left = 1152 - (n + 1) in
    let w = plain_wire m n in
    let s = registers_at iv m n in
    let f : 1152 - n ≡ suc left = omega arith in
    let g : n + 1 ≡ suc n = omega arith in
    let p : plain_wire m (n + 1) ≡ w + 14 = omega arith in
    let u : tail_at m n ≡ w + 4 = tail_plain m n h in
    let rest : List Gate = gates_from left m 128 (w + 14) (move_wires (w + 4) s) in
    let r : gates_from left m 128 (plain_wire m (n + 1)) (registers_at iv m (n + 1)) ≡ rest =
    ap₂ (gates_from left m 128) p (ap (registers_at iv m) g ∙ ap (λ (x : ℕ). move_wires x s) u) in
    ap₂ (λ (z : List ℕ) (y : List Gate). put_gates z (plain_at (n + 1)) y) (e ∙ ap (λ (t : Taps). put_gates out (plain_at n) (plain_of m n t)) et) r
    ∙ put_append (head_gates w s ++ tail_gates w (w + 4) s) rest out (plain_at n) (plain_at (n + 1)) (omega arith)
    ∙ sym (ap (λ (x : ℕ). put_gates out (plain_at n) (gates_from x m 128 w s)) f)

pub output_turn : (iv : List ℕ) (m k : ℕ) (t : Taps) (out o : List ℕ) → k < m → t ≡ taps_of (registers_at iv m (1152 + k)) → o ≡ put_gates out (output_at k) (output_of m k t)
    → put_gates o (output_at (k + 1)) (output_rest iv m (k + 1)) ≡ put_gates out (output_at k) (output_rest iv m k)
unfolding output_rest gates_from registers_at
output_turn iv m k t out o h et e =
    let left = m - (k + 1) in
    let w = output_wire m k in
    let s = registers_at iv m (1152 + k) in
    let f : m - k ≡ suc left = omega arith in
    let g : 1152 + (k + 1) ≡ suc (1152 + k) = omega arith in
    let x : 128 + (k + 1) ≡ suc (128 + k) = omega arith in
    let p : output_wire m (k + 1) ≡ w + 17 = omega arith in
    let u : tail_at m (1152 + k) ≡ w + 7 = tail_output m k in
    let outs = out_gates w (w + 4) (128 + k) in
    let rest : List Gate = gates_from 0 left (suc (128 + k)) (w + 17) (move_wires (w + 7) s) in
    let r : gates_from 0 left (128 + (k + 1)) (output_wire m (k + 1)) (registers_at iv m (1152 + (k + 1))) ≡ rest =
    ap₂ (λ (y z : ℕ). gates_from 0 left y z (registers_at iv m (1152 + (k + 1)))) x p
    ∙ ap (gates_from 0 left (suc (128 + k)) (w + 17)) (ap (registers_at iv m) g ∙ ap (λ (x : ℕ). move_wires x s) u) in
    ap₂ (λ (z : List ℕ) (y : List Gate). put_gates z (output_at (k + 1)) y) (e ∙ ap (λ (t : Taps). put_gates out (output_at k) (output_of m k t)) et) r
    ∙ put_append (head_gates w s ++ (outs ++ tail_gates w (w + 7) s)) rest out (output_at k) (output_at (k + 1)) (omega arith)
    ∙ sym (ap (λ (x : ℕ). put_gates out (output_at k) (gates_from 0 x (128 + k) w s)) f)

-- where the loops begin and end
pub plain_from : (iv : List ℕ) (m n : ℕ) (o : List ℕ) → n ≡ 111 → put_gates o (plain_at 111) (plain_rest iv m 111) ≡ put_gates o (plain_at n) (plain_rest iv m n)
plain_from iv m n o e = ap (λ (x : ℕ). put_gates o (plain_at x) (plain_rest iv m x)) (sym e)

pub plain_end : (iv : List ℕ) (m n : ℕ) (o : List ℕ) → n ≡ 1152 → put_gates o (output_at 0) (output_rest iv m 0) ≡ put_gates o (plain_at n) (plain_rest iv m n)
unfolding plain_rest output_rest
plain_end iv m n o e =
    let f : m - 0 ≡ m = omega arith in
    let w : output_wire m 0 ≡ plain_wire m 1152 = omega arith in
    ap₂ (λ (x y : ℕ). put_gates o (output_at 0) (gates_from 0 x 128 y (registers_at iv m 1152))) f w
    ∙ ap (λ (x : ℕ). put_gates o (plain_at x) (plain_rest iv m x)) (sym e)

pub output_end : (iv : List ℕ) (m k : ℕ) (o : List ℕ) → m ≤ k → o ≡ put_gates o (output_at k) (output_rest iv m k)
unfolding output_rest gates_from put_gates
output_end iv m k o h =
    let f : 0 ≡ m - k = omega arith in
    ap (λ (x : ℕ). put_gates o (output_at k) (gates_from 0 x (128 + k) (output_wire m k) (registers_at iv m (1152 + k)))) f

-- ZERO, ONE and all rounds
pub all_put : (iv : List ℕ) (m i j : ℕ) (out o₁ o₂ o₃ o₄ : List ℕ) → i ≡ gate_place 0 → j ≡ gate_place 1
    → o₁ ≡ sets out i (gate_words Zero) → o₂ ≡ sets o₁ j (gate_words One)
    → put_gates o₃ (output_at 0) (output_rest iv m 0) ≡ put_gates o₂ (plain_at 0) (plain_rest iv m 0)
    → o₄ ≡ put_gates o₃ (output_at 0) (output_rest iv m 0)
    → o₄ ≡ put_gates out header_words (kreyvium_gates iv m)
unfolding kreyvium_gates plain_rest registers_at
all_put iv m i j out o₁ o₂ o₃ o₄ ei ej e₁ e₂ e₃ e₄ =
    let w : plain_wire m 0 ≡ 130 + m = omega arith in
    more out o₂ o₄ header_words (plain_at 0) (Zero ∷ One ∷ []) (gates_from 1152 m 128 (plain_wire m 0) (start_wires iv m))
    (two out o₁ o₂ header_words (gate_place 1) Zero One (e₁ ∙ ap (λ (n : ℕ). sets out n (gate_words Zero)) ei) (e₂ ∙ ap (λ (n : ℕ). sets o₁ n (gate_words One)) ej) refl) (e₄ ∙ e₃) refl
    ∙ ap (λ (x : ℕ). put_gates out header_words (Zero ∷ One ∷ gates_from 1152 m 128 x (start_wires iv m))) w
