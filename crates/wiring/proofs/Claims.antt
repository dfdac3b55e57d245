-- What is claimed of the deciphering netlists of instances 1 to 5, with the rules' chains: for every accepted row and
-- whitening, every key and every enciphered record.
use Prim.Native.Nat.{ℕ, zero, suc, ◌+◌, ◌*◌, ◌≤◌}
use mathlib.Core.Path.{◌≡◌}
use mathlib.Core.List.{List, ◌++◌}
use native.Mathlib.Omega.{arith}
use native.Mathlib.Nat.{mul-le-mul}
use lib.ListN.{length}
use Rattle.netlist.specs.Net.{eval, depth, mults, Valid}
use Rattle.netlist.specs.Words.{net_counts, words}
use Rattle.netlist.specs.Sound.{Limits, Sound}
use Rattle.netlist.proofs.Words.{valid_sound}
use Rattle.instance.proofs.Judged.{key_small, row_small}
use Rattle.filter.specs.Filter.{tab, ones}
use Rattle.filter.proofs.Sums.{ones_le}
use Rattle.wiring.specs.Exp.{chain}
use Rattle.wiring.specs.Costs.{cost_of}
use Rattle.wiring.specs.Decipher.{rows_net}
use Rattle.wiring.specs.Rows.{Rows, Inputs, decipher_bit}
use Rattle.wiring.proofs.Products.{chain_splits}
use Rattle.wiring.proofs.Table.{known_chain}
use Rattle.wiring.proofs.Deciphers.{decipher_mults, decipher_valid, decipher_depth, decipher_gates, decipher_outs, decipher_right}

gates_small : (inst : ℕ) → (cost_of inst).gates ≤ 1394
unfolding cost_of
gates_small zero = omega arith
gates_small (suc zero) = omega arith
gates_small (suc (suc zero)) = omega arith
gates_small (suc (suc (suc zero))) = omega arith
gates_small (suc (suc (suc (suc zero)))) = omega arith
gates_small (suc (suc (suc (suc (suc zero))))) = omega arith
gates_small (suc (suc (suc (suc (suc (suc i)))))) = omega arith

module _ (inst m : ℕ) (idx wh : List ℕ) (low : 1 ≤ inst) (high : inst ≤ 5) (R : Rows inst m idx wh) where
  -- each output is the filter's bit and the record's
  pub rows_right : (key rec : List ℕ) → Inputs inst m key rec → eval (rows_net chain inst idx wh m) (key ++ rec) ≡ tab (decipher_bit inst key rec idx wh) m
  rows_right = decipher_right chain chain_splits inst (cost_of inst) (known_chain inst low high) m idx wh R

  -- m times the rules' table
  pub rows_mults : mults (rows_net chain inst idx wh m) ≡ m * (cost_of inst).mults
  rows_mults = decipher_mults chain chain_splits inst (cost_of inst) (known_chain inst low high) m idx wh R

  pub rows_depth : 1 ≤ m → depth (rows_net chain inst idx wh m) ≡ (cost_of inst).depth
  rows_depth = decipher_depth chain chain_splits inst (cost_of inst) (known_chain inst low high) m idx wh R

  pub rows_valid : Valid (rows_net chain inst idx wh m)
  rows_valid = decipher_valid chain chain_splits inst (cost_of inst) (known_chain inst low high) m idx wh R

  pub rows_outs : length (rows_net chain inst idx wh m).outs ≡ m
  rows_outs = decipher_outs chain chain_splits inst (cost_of inst) (known_chain inst low high) m idx wh R

  -- a NOT for each whitening 1, and the table's gates for each bit
  pub rows_gates : length (rows_net chain inst idx wh m).gates ≡ ones wh + m * (cost_of inst).gates
  rows_gates = decipher_gates chain chain_splits inst (cost_of inst) (known_chain inst low high) m idx wh R

  -- at most 64 · 2 · 1394 gates
  pub rows_few : m ≤ 64 → length (rows_net chain inst idx wh m).gates ≤ 178432
  rows_few h =
      omega (arith, rows_gates, ones_le wh, R.whitening, mul-le-mul h (row_small inst), mul-le-mul h (gates_small inst))

  pub rows_limits : m ≤ 64 → Limits (net_counts (rows_net chain inst idx wh m))
  unfolding rows_net
  rows_limits h = record { inputs = omega (arith, key_small inst); gates = omega (arith, rows_few h); outputs = omega (arith, rows_outs) }

  pub rows_sound : m ≤ 64 → Sound (words (rows_net chain inst idx wh m))
  rows_sound h = valid_sound (rows_net chain inst idx wh m) rows_valid (rows_limits h)
