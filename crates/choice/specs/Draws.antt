-- What a caller lends for a row.
use Rattle.std.specs.Prelude.{ℕ, ◌-◌, ◌<◌, ◌≤◌, ◌≡◌, List, length, get_or}
use Rattle.instance.specs.Table.{key_bits, row_bits}

-- docs/RULES.md, "Choice from draws": instances 1 to 5, n draws, draw(i) below N - i.
pub record Drawn (inst : ℕ) (draws : List ℕ) : Type 0 where
  pub least : 1 ≤ inst
  pub most : inst ≤ 5
  pub count : length draws ≡ row_bits inst
  pub low : (i : ℕ) → i < length draws → get_or draws i 0 < key_bits inst - i
