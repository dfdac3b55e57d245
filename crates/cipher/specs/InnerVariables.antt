-- Inner: only contracts of private functions cite this. The variables of the rows that are lent.
use Rattle.std.specs.Prelude.{ℕ, List}
use Rattle.instance.specs.Keys.{key_in}
use Rattle.filter.specs.Filter.{var, tab}
use Rattle.cipher.specs.Rows.{stream_bit}
use Rattle.cipher.specs.declared.rows.Rows.{Rows}

abbrev pub variable_of : Rows → ℕ → ℕ
variable_of r = var (key_in r.instance r.key.now) r.indices.now r.whitening.now

-- the first m keystream bits of them
abbrev pub stream_rows : Rows → ℕ → List ℕ
stream_rows r m = tab (stream_bit r.instance (key_in r.instance r.key.now) r.indices.now r.whitening.now) m
