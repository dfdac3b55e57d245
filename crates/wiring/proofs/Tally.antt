-- What an expression costs, counted over it.
use Prim.Native.Nat.{ℕ, suc, ◌+◌, ◌-◌, ◌*◌, max}
use lib.ListN.{length}
use Rattle.cells.specs.InnerLoop.{pos}
use Rattle.wiring.specs.Exp.{Exp, wire, sum, times, least, Split, one, two}

-- multiplications; a threshold's as the rules say
unfoldable pub muls : Exp → ℕ
muls (wire w) = 0
muls (sum a b) = muls a + muls b
muls (times a b) = muls a + muls b + 1
muls (least d ws) = (d + 1) * (length ws - d + 1) - 2 - pos (length ws - d)

-- depth over wires of depth 0
unfoldable pub deep : Exp → ℕ
deep (wire w) = 0
deep (sum a b) = max (deep a) (deep b)
deep (times a b) = suc (max (deep a) (deep b))
deep (least d ws) = length ws - 1

-- gates; a threshold has a NOT and an XOR for each wire past d
unfoldable pub size : Exp → ℕ
size (wire w) = 0
size (sum a b) = size a + size b + 1
size (times a b) = size a + size b + 1
size (least d ws) = muls (least d ws) + 2 * (length ws - d)

-- ANDs that follow each other in a product
unfoldable pub height : Split → ℕ
height one = 0
height (two a b) = suc (max (height a) (height b))
