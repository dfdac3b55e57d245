-- Inner: only contracts of private functions cite this. What a caller lends the rows' code, and bits side by side in a
-- word.
use Rattle.std.specs.Prelude.{ℕ, ◌+◌, ◌*◌, ◌≤◌, List, get_or}
use Rattle.std.proofs.Props.{props}
use Rattle.instance.specs.Table.{row_bits}
use Rattle.instance.specs.Keys.{Keyed}

-- m rows are among n indices, and x places for a row's variables
pub record RowsLent (inst n x m : ℕ) : Type 0 where
  pub fits : row_bits inst ≤ x
  pub few : m ≤ 64
  pub indices : m * row_bits inst ≤ n

-- what holds of a key is one fact
pub keyed_one : (inst : ℕ) (key : List ℕ) → IsProp (Keyed inst key)
unfolding Keyed
keyed_one inst key = Prim.hlevel props

-- four bits from a place on, eight places apart, the first lowest
unfoldable pub apart : List ℕ → ℕ → ℕ
apart s at = get_or s at 0 + get_or s (at + 1) 0 * 256 + get_or s (at + 2) 0 * 65536 + get_or s (at + 3) 0 * 16777216
