-- The deciphering netlists of instances 1 to 5. docs/RULES.md, "What is emitted". S is how products are split.
use Rattle.std.specs.Prelude.{ℕ, zero, suc, ◌+◌, ◌*◌, List, [], ◌∷◌, ◌++◌, length, take, drop, eqb}
use Rattle.netlist.specs.declared.gate.Gate.{Gate}
use Rattle.netlist.specs.declared.gate.Gate.TheVariants.{Not}
use Rattle.netlist.specs.Net.{Net}
use Rattle.netlist.specs.Part.{Part, past}
use Rattle.instance.specs.Table.{key_bits, row_bits}
use Rattle.filter.specs.Instances.{degrees_of}
use Rattle.answer.specs.Choose.{choose}
use Rattle.wiring.specs.Exp.{Exp, wire, sum, least, emit, Split, monomials}

-- a NOT for each whitening 1, in row order
unfoldable pub nots : List ℕ → List ℕ → List Gate
nots [] ws = []
nots (p ∷ ps) [] = nots ps []
nots (p ∷ ps) (zero ∷ ws) = nots ps ws
nots (p ∷ ps) (suc w ∷ ws) = Not p ∷ nots ps ws

-- the variables' wires: the key's, or its NOT's, where the NOTs begin at wire next
unfoldable pub vars : ℕ → List ℕ → List ℕ → List ℕ
vars next [] ws = []
vars next (p ∷ ps) [] = p ∷ vars next ps []
vars next (p ∷ ps) (zero ∷ ws) = p ∷ vars next ps ws
vars next (p ∷ ps) (suc w ∷ ws) = next ∷ vars (suc next) ps ws

-- FiLIP-144 adds its threshold
unfoldable pub filter_exp : (ℕ → Split) → ℕ → List ℕ → Exp
filter_exp S inst xs = choose (eqb inst 5) (sum (monomials S (degrees_of inst) xs) (least 32 (drop 81 xs))) (monomials S (degrees_of inst) xs)

-- one bit, behind next wires, with its record bit's wire, its row and its whitening
unfoldable pub bit_exp : (ℕ → Split) → ℕ → ℕ → ℕ → List ℕ → List ℕ → Exp
bit_exp S inst rec next row ws = sum (filter_exp S inst (vars next row ws)) (wire rec)

unfoldable pub bit_part : (ℕ → Split) → ℕ → ℕ → ℕ → List ℕ → List ℕ → Part
bit_part S inst rec next row ws =
    let p = emit (next + length (nots row ws)) (bit_exp S inst rec next row ws) in
    record { gates = nots row ws ++ p.gates; out = p.out }

-- row i of rows of n end to end
unfoldable pub row_at : ℕ → ℕ → List ℕ → List ℕ
row_at n i l = take n (drop (i * n) l)

-- k bits from bit i on, behind next wires
module _ (S : ℕ → Split) (inst : ℕ) (idx wh : List ℕ) where
  unfoldable pub part_at : ℕ → ℕ → Part
  part_at i next = bit_part S inst (key_bits inst + i) next (row_at (row_bits inst) i idx) (row_at (row_bits inst) i wh)

  unfoldable pub bits_gates : ℕ → ℕ → ℕ → List Gate
  bits_gates zero i next = []
  bits_gates (suc k) i next = (part_at i next).gates ++ bits_gates k (suc i) (past next (part_at i next))

  unfoldable pub bits_outs : ℕ → ℕ → ℕ → List ℕ
  bits_outs zero i next = []
  bits_outs (suc k) i next = (part_at i next).out ∷ bits_outs k (suc i) (past next (part_at i next))

  unfoldable pub rows_net : ℕ → Net
  rows_net m = record {
    inputs = key_bits inst + m;
    gates = bits_gates m 0 (key_bits inst + m);
    outs = bits_outs m 0 (key_bits inst + m);
  }
