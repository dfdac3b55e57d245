-- Kreyvium's netlist as words: how many there are, the outputs' loop, the whole.
use mathlib.Core.Path.{◌≡◌, ap, sym, ◌∙◌}
use mathlib.Core.List.{List}
use Prim.Native.Nat.{ℕ, zero, suc, ◌+◌, ◌-◌, ◌*◌, ◌≤◌, ◌<◌}
use native.Mathlib.Omega.{arith}
use lib.ListN.{length, set}
use lib.Seq.{sets}
use Rattle.answer.specs.Fronts.{over}
use Rattle.netlist.specs.declared.counts.Counts.{Counts}
use Rattle.netlist.specs.Words.{header_words, gate_place, header, word_count, net_counts, words}
use Rattle.netlist.specs.Put.{put_gates}
use Rattle.netlist.proofs.Puts.{net_put, words-length}
use Rattle.rounds.specs.Gates.{outs_from, kreyvium_gates, kreyvium_net}
use Rattle.rounds.proofs.Sound.{kreyvium_gates_lem, kreyvium_outs}
use Rattle.register.specs.InnerRounds.{counts_for, output_at, output_wire}

outs_skip : (n m w : ℕ) → outs_from n m w ≡ outs_from 0 m (w + 14 * n)
unfolding outs_from
outs_skip zero m w = let e : w ≡ w + 14 * 0 = omega arith in ap (outs_from 0 m) e
outs_skip (suc n) m w = let e : w + 14 + 14 * n ≡ w + 14 * suc n = omega arith in outs_skip n m (w + 14) ∙ ap (outs_from 0 m) e

counts_are : (iv : List ℕ) (m : ℕ) → counts_for m ≡ net_counts (kreyvium_net iv m)
unfolding kreyvium_net
counts_are iv m k = record { inputs = 128 + m; gates = sym (kreyvium_gates_lem iv m) k; outputs = sym (kreyvium_outs iv m) k }

-- the whole
pub kreyvium_put : (iv : List ℕ) (m : ℕ) (c : Counts) (out o₁ o₂ o₃ : List ℕ)
    → length (words (kreyvium_net iv m)) ≤ length out → c ≡ counts_for m
    → o₁ ≡ sets out 0 (header c) → o₂ ≡ put_gates o₁ header_words (kreyvium_gates iv m) → o₃ ≡ sets o₂ (output_at m) (outs_from 0 m (output_wire m 0))
    → o₃ ≡ over (words (kreyvium_net iv m)) out
unfolding kreyvium_net
kreyvium_put iv m c out o₁ o₂ o₃ room ec e₁ e₂ e₃ =
    let q : 130 + m + 14 * 1152 ≡ output_wire m 0 = omega arith in
    let f : outs_from 0 m (output_wire m 0) ≡ outs_from 1152 m (130 + m) = sym (outs_skip 1152 m (130 + m) ∙ ap (outs_from 0 m) q) in
    net_put (kreyvium_net iv m) out o₁ o₂ o₃ c (output_at m) (ec ∙ counts_are iv m) (ap gate_place (sym (kreyvium_gates_lem iv m)))
    room e₁ e₂ (e₃ ∙ ap (sets o₂ (output_at m)) f)

pub kreyvium_length : (iv : List ℕ) (m : ℕ) → length (words (kreyvium_net iv m)) ≡ word_count (counts_for m)
kreyvium_length iv m = words-length (kreyvium_net iv m) ∙ ap word_count (sym (counts_are iv m))

pub kreyvium_room : (iv : List ℕ) (m room : ℕ) → length (words (kreyvium_net iv m)) ≤ room → word_count (counts_for m) ≤ room
kreyvium_room iv m room h = omega (arith, kreyvium_length iv m)

-- what the outputs' loop has still to store, from output k on
abbrev pub OutsFrom : ℕ → ℕ → List ℕ → List ℕ
OutsFrom m k out = sets out (output_at m + k) (outs_from 0 (m - k) (output_wire m k))

-- a turn of the loop
pub outs_turn : (m k start : ℕ) (out : List ℕ) → start ≡ output_at m → k < m
    → OutsFrom m (k + 1) (set out (start + k) (16264 + m + 17 * k)) ≡ OutsFrom m k out
unfolding outs_from
outs_turn m k start out e h =
    let left = m - (k + 1) in
    let w = output_wire m k in
    let i = output_at m + k in
    let f : m - k ≡ suc left = omega arith in
    let a : output_at m + (k + 1) ≡ suc i = omega arith in
    let b : output_wire m (k + 1) ≡ w + 17 = omega arith in
    let v : 16264 + m + 17 * k ≡ w + 6 = omega arith in
    (λ j. sets (set out (e j + k) (v j)) (a j) (outs_from 0 left (b j))) ∙ sym (ap (λ (x : ℕ). sets out i (outs_from 0 x w)) f)

pub outs_start : (m : ℕ) (out : List ℕ) → OutsFrom m 0 out ≡ sets out (output_at m) (outs_from 0 m (output_wire m 0))
outs_start m out =
    let a : output_at m + 0 ≡ output_at m = omega arith in
    let b : m - 0 ≡ m = omega arith in
    λ j. sets out (a j) (outs_from 0 (b j) (output_wire m 0))

pub outs_end : (m k : ℕ) (out : List ℕ) → m ≤ k → OutsFrom m k out ≡ out
unfolding outs_from
outs_end m k out g =
    let f : m - k ≡ 0 = omega arith in
    ap (λ (x : ℕ). sets out (output_at m + k) (outs_from 0 x (output_wire m k))) f
