-- What docs/RULES.md, "Rows", lets a caller lend: the wiring of a record of m bits, and a record.
use Rattle.std.specs.Prelude.{ℕ, ◌+◌, ◌*◌, ◌<◌, ◌≤◌, ◌≡◌, List, length, get_or}
use Rattle.instance.specs.Table.{key_bits, row_bits, white_bits}

-- For each of 1 to 64 bits a row of n distinct key indices and n whitening bits, rows end to end; FLIP whitening, instances 1
-- and 2, is all 0. Kreyvium takes an empty index list and its 128 IV bits in place of whitening.
pub record Wired (inst m : ℕ) (idx wh : List ℕ) : Type 0 where
  pub least : 1 ≤ inst
  pub most : inst ≤ 6
  pub some : 1 ≤ m
  pub few : m ≤ 64
  pub indices : length idx ≡ m * row_bits inst
  pub whitening : length wh ≡ white_bits inst m
  pub white_bit : (k : ℕ) → k < length wh → get_or wh k 0 ≤ 1
  pub below : (k : ℕ) → k < length idx → get_or idx k 0 < key_bits inst
  pub distinct : (i j k : ℕ) → i < m → j < row_bits inst → k < row_bits inst
      → get_or idx (i * row_bits inst + j) 0 ≡ get_or idx (i * row_bits inst + k) 0 → j ≡ k
  pub plain : inst ≤ 2 → (k : ℕ) → k < length wh → get_or wh k 0 ≡ 0

-- a list of n bits: a record has m of them, an IV 128
pub record Bits (n : ℕ) (s : List ℕ) : Type 0 where
  pub size : length s ≡ n
  pub bit : (k : ℕ) → k < length s → get_or s k 0 ≤ 1
