-- Rows, key and record as a judge accepts them, and what deciphering makes of them.
use Rattle.std.specs.Prelude.{ℕ, ◌+◌, ◌*◌, ◌%◌, ◌<◌, ◌≤◌, ◌≡◌, List, length, get_or, drop}
use Rattle.instance.specs.Table.{key_bits, row_bits}
use Rattle.filter.specs.Instances.{row_bit}

-- m rows end to end and their whitening: each index a place of the key, each whitening bit 0 or 1
pub record Rows (inst m : ℕ) (idx wh : List ℕ) : Type 0 where
  pub indices : length idx ≡ m * row_bits inst
  pub whitening : length wh ≡ m * row_bits inst
  pub below : (j : ℕ) → j < length idx → get_or idx j 0 < key_bits inst
  pub white_bit : (j : ℕ) → j < length wh → get_or wh j 0 ≤ 1

-- the netlist's inputs: a key and an enciphered record
pub record Inputs (inst m : ℕ) (key rec : List ℕ) : Type 0 where
  pub key_length : length key ≡ key_bits inst
  pub rec_length : length rec ≡ m
  pub key_bit : (j : ℕ) → j < length key → get_or key j 0 ≤ 1
  pub rec_bit : (j : ℕ) → j < length rec → get_or rec j 0 ≤ 1

-- bit i: the filter over row i, and the record's bit
unfoldable pub decipher_bit : ℕ → List ℕ → List ℕ → List ℕ → List ℕ → ℕ → ℕ
decipher_bit inst key rec idx wh i = (row_bit inst key (drop (i * row_bits inst) idx) (drop (i * row_bits inst) wh) + get_or rec i 0) % 2
