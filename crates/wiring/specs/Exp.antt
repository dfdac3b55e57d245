-- What a wire is to carry, as an expression over wires that are there already: its gates stand in the order in which
-- the rules name them, first operand, second operand, the gate over both.
use Rattle.std.specs.Prelude.{ℕ, zero, suc, ◌+◌, List, [], ◌∷◌, get_or, take, drop}
use Rattle.netlist.specs.declared.gate.Gate.TheVariants.{Xor, And}
use Rattle.netlist.specs.Part.{Part, past, input, join}
use Rattle.cells.specs.Cells.{threshold_part}

-- least d ws: at least d of the wires ws carry 1
pub data Exp : Type 0 where
  wire : ℕ → Exp
  sum : Exp → Exp → Exp
  times : Exp → Exp → Exp
  least : ℕ → List ℕ → Exp

-- the gates, from wire next on
unfoldable pub emit : ℕ → Exp → Part
emit next (wire w) = input w
emit next (sum a b) = join Xor next (emit next a) (emit (past next (emit next a)) b)
emit next (times a b) = join And next (emit next a) (emit (past next (emit next a)) b)
emit next (least d ws) = threshold_part next d ws

-- A way of splitting a product: one factor, or two products.
pub data Split : Type 0 where
  one : Split
  two : Split → Split → Split

unfoldable pub factors : Split → ℕ
factors one = 1
factors (two a b) = factors a + factors b

-- the rules: from the left, the running product first
unfoldable pub chain : ℕ → Split
chain zero = one
chain (suc zero) = one
chain (suc (suc k)) = two (chain (suc k)) one

-- the product of wires
unfoldable pub product : Split → List ℕ → Exp
product one ws = wire (get_or ws 0 0)
product (two a b) ws = times (product a (take (factors a) ws)) (product b (drop (factors a) ws))

-- monomials of the given degrees, over wires taken in order, each once, added to a running sum
unfoldable pub add_all : (ℕ → Split) → Exp → List ℕ → List ℕ → Exp
add_all S acc [] ws = acc
add_all S acc (d ∷ ds) ws = add_all S (sum acc (product (S d) (take d ws))) ds (drop d ws)

unfoldable pub monomials : (ℕ → Split) → List ℕ → List ℕ → Exp
monomials S [] ws = wire 0
monomials S (d ∷ ds) ws = add_all S (product (S d) (take d ws)) ds (drop d ws)
