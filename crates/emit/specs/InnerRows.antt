-- Inner: only contracts of private functions cite this. What the writers of a deciphering netlist of instances 1 to 5 speak
-- of.
use Rattle.std.specs.Prelude.{ℕ, zero, suc, ◌≤◌, List, [], ◌∷◌, ◌++◌, length}
use Rattle.netlist.specs.declared.gate.Gate.TheVariants.{Xor}
use Rattle.netlist.specs.Part.{Part, past}
use Rattle.wiring.specs.Exp.{emit, product, chain}
use Rattle.wiring.specs.Rows.{Rows}

-- one variable's wire, and how many NOTs it takes
unfoldable pub variable_wire : ℕ → ℕ → ℕ → ℕ
variable_wire p zero next = p
variable_wire p (suc w) next = next

unfoldable pub flips : ℕ → ℕ
flips zero = 0
flips (suc w) = 1

-- one more monomial and its XOR, behind a running sum at wire acc
unfoldable pub term : ℕ → ℕ → List ℕ → Part
term next acc ws =
    let p = emit next (product (chain (length ws)) ws) in
    record { gates = p.gates ++ Xor acc p.out ∷ []; out = past next p }

-- an accepted wiring of m bits
pub record Wiring (inst m : ℕ) (idx wh : List ℕ) : Type 0 where
  pub low : 1 ≤ inst
  pub high : inst ≤ 5
  pub few : m ≤ 64
  pub rows : Rows inst m idx wh
