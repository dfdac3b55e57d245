-- What every emitted netlist is: sound, with its inputs and outputs, and its depth and multiplications.
use Prim.Native.Nat.{ℕ, ◌+◌, ◌*◌, ◌/◌, ◌<◌, ◌≤◌}
use mathlib.Core.Path.{◌≡◌, sym, ap, ◌∙◌}
use mathlib.Core.List.{List}
use native.Mathlib.Omega.{arith}
use lib.ListN.{get_or, replicate}
use Rattle.netlist.specs.Net.{Net, depth, mults, dep_alg, outs_of}
use Rattle.netlist.specs.Words.{inputs_of, outputs_of, words}
use Rattle.netlist.specs.Sound.{Sound}
use Rattle.netlist.proofs.Words.{valid_sound}
use Rattle.instance.specs.Table.{sizes_of, key_bits}
use Rattle.instance.specs.Wired.{Wired}
use Rattle.cells.specs.Cells.{one_hot_net, threshold_net}
use Rattle.cells.proofs.Facts.{one_hot_valid, one_hot_inputs, one_hot_outputs, one_hot_gates_64, threshold_valid, threshold_inputs, threshold_outputs, threshold_gates_64}
use Rattle.wiring.specs.Costs.{cost_of}
use Rattle.wiring.specs.Decipher.{rows_net}
use Rattle.wiring.proofs.Claims.{rows_mults, rows_depth, rows_sound}
use Rattle.rounds.specs.Gates.{kreyvium_net}
use Rattle.rounds.proofs.Sound.{kreyvium_mults, kreyvium_sound}
use Rattle.rounds.proofs.Depths.{kreyvium_depths}
use Rattle.emit.specs.Emit.{decipher_net}
use Rattle.emit.specs.InnerRows.{Wiring}
use Rattle.emit.proofs.Accepted.{net_kreyvium, net_rows, by_six, iv-lent, wiring_of, outs_count}

-- One-hot and threshold netlists, up to 64 inputs, are accepted by every netlist call.
pub one_hot_sound : (n : ℕ) → n ≤ 64 → Sound (words (one_hot_net n))
one_hot_sound n h =
    valid_sound (one_hot_net n) (one_hot_valid n)
    record {
      inputs = omega (arith, one_hot_inputs n);
      gates = omega (arith, one_hot_gates_64 n h);
      outputs = omega (arith, one_hot_outputs n);
    }

pub threshold_sound : (d n : ℕ) → n ≤ 64 → 1 ≤ d → d ≤ n + 1 → Sound (words (threshold_net d n))
threshold_sound d n h low high =
    valid_sound (threshold_net d n) (threshold_valid d n low high)
    record {
      inputs = omega (arith, threshold_inputs d n);
      gates = omega (arith, threshold_gates_64 d n low high h);
      outputs = omega (arith, threshold_outputs d n);
    }

module _ (inst m : ℕ) (idx wh : List ℕ) (l : Wired inst m idx wh) where
  -- of instances 1 to 5, for the writers of their netlist
  rows : (inst ≡ 6 → ⊥) → Wiring inst m idx wh
  rows n = wiring_of inst m idx wh l n

  -- The emitted words are accepted by every netlist call.
  pub emitted_sound : Sound (words (decipher_net inst m idx wh))
  emitted_sound =
      by_six inst
      (λ e. rw (net_kreyvium inst m idx wh e) (kreyvium_sound wh m l.few))
      (λ n. rw (net_rows inst m idx wh n) (rows_sound inst m idx wh (rows n).low (rows n).high (rows n).rows l.few))

  -- Inputs: N key bits, then m record bits; outputs m.
  pub emitted_inputs : inputs_of (words (decipher_net inst m idx wh)) ≡ key_bits inst + m
  unfolding kreyvium_net rows_net sizes_of
  emitted_inputs =
      by_six inst
      (λ e. ap (λ (n : Net). n.inputs) (net_kreyvium inst m idx wh e) ∙ ap (λ (i : ℕ). key_bits i + m) (sym e))
      (λ n. ap (λ (n : Net). n.inputs) (net_rows inst m idx wh n))

  pub emitted_outputs : outputs_of (words (decipher_net inst m idx wh)) ≡ m
  emitted_outputs = outs_count inst m idx wh l

  -- Multiplications and depth: the rules' table for instances 1 to 5; Kreyvium's, and its bound for output bit t.
  pub emitted_mults : (inst ≡ 6 → ⊥) → mults (decipher_net inst m idx wh) ≡ m * (cost_of inst).mults
  emitted_mults n = ap mults (net_rows inst m idx wh n) ∙ rows_mults inst m idx wh (rows n).low (rows n).high (rows n).rows

  pub emitted_depth : (inst ≡ 6 → ⊥) → depth (decipher_net inst m idx wh) ≡ (cost_of inst).depth
  emitted_depth n = ap depth (net_rows inst m idx wh n) ∙ rows_depth inst m idx wh (rows n).low (rows n).high (rows n).rows l.some

  pub kreyvium_emitted_mults : inst ≡ 6 → mults (decipher_net inst m idx wh) ≡ 3 * (1152 + m)
  kreyvium_emitted_mults e = ap mults (net_kreyvium inst m idx wh e) ∙ kreyvium_mults wh m

  pub kreyvium_emitted_depths : inst ≡ 6 → (t : ℕ) → t < m
      → get_or (outs_of dep_alg (decipher_net inst m idx wh) (replicate (decipher_net inst m idx wh).inputs 0)) t 0 ≤ (1087 + t + 81) / 82
  kreyvium_emitted_depths e t h =
      rw (net_kreyvium inst m idx wh e) (kreyvium_depths wh m (iv-lent inst m idx wh l e) t h)
