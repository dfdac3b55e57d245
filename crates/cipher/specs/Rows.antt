-- Keystream bits of instances 1 to 5.
use Rattle.std.specs.Prelude.{ℕ, ◌*◌, List, drop}
use Rattle.instance.specs.Table.{row_bits}
use Rattle.filter.specs.Instances.{row_bit}

-- bit i under a key of these bits: the filter over row i; rows and their whitening stand end to end
unfoldable pub stream_bit : ℕ → List ℕ → List ℕ → List ℕ → ℕ → ℕ
stream_bit inst bits idx wh i = row_bit inst bits (drop (i * row_bits inst) idx) (drop (i * row_bits inst) wh)
