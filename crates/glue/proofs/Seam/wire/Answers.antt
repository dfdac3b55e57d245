use Prim.Native.Nat.{ℕ, zero, suc, ◌+◌, ◌-◌, ◌*◌, ◌<◌, ◌≤◌}
use mathlib.Core.Path.{◌≡◌, sym}
use mathlib.Core.List.{List}
use native.Mathlib.Omega.{arith}
use lib.ListN.{length, get_or}
use lib.Dec.{ltb}
use Rattle.answer.specs.Choose.{choose}
use Rattle.netlist.specs.Glue.{thru}
use Rattle.netlist.proofs.Gates.{times_most}
use Rattle.netlist.proofs.Glued.{thru_in, thru_gate}
use Rattle.glue.proofs.Seam.wire.Goals as goal

-- an input, a gate, and one that is not used
input : (outs : List ℕ) (base u i : ℕ) → u ≤ 1 → i < u * length outs → get_or outs i 0 ≡ choose (ltb 0 u) (thru outs base i) 0
input outs base zero i h l = absurd (omega arith)
input outs base (suc zero) i h l = sym (thru_in outs base i (omega arith))
input outs base (suc (suc u)) i h l = absurd (omega arith)

gate : (outs : List ℕ) (base u i : ℕ) → u ≤ 1 → u * length outs ≤ i → u * (base + i) - u * length outs ≡ choose (ltb 0 u) (thru outs base i) 0
gate outs base zero i h l = omega arith
gate outs base (suc zero) i h l = omega (arith, thru_gate outs base i (omega arith))
gate outs base (suc (suc u)) i h l = absurd (omega arith)

-- what is past the inputs is not below them
past : (n base u i : ℕ) → u ≤ 1 → u * n ≤ i → u * n ≤ u * (base + i)
past n base zero i h l = omega arith
past n base (suc zero) i h l = omega arith
past n base (suc (suc u)) i h l = absurd (omega arith)

pub overflow_mul-inputs : goal.overflow_mul-inputs
overflow_mul-inputs c = omega (arith, times_most c.args.used (length c.args.self.outs.now) 4096 c.requires.0 c.requires.1)

pub bounds-self-k : goal.bounds-self-k
bounds-self-k c =
    omega (arith, times_most c.args.used (length c.args.self.outs.now) (length c.args.self.outs.now) c.requires.0 (omega arith))

pub returns-then-i-inputs : goal.returns-then-i-inputs
returns-then-i-inputs c = input _ _ c.args.used _ c.requires.0 c.if-i-inputs.true

pub overflow_mul-result : goal.overflow_mul-result
overflow_mul-result c =
    omega (arith, times_most c.args.used (c.args.self.base + c.args.i) 4294967295 c.requires.0 (omega arith))

pub overflow_sub-result : goal.overflow_sub-result
overflow_sub-result c = past _ _ c.args.used _ c.requires.0 c.if-i-inputs.false

pub returns : goal.returns
returns c = gate _ _ c.args.used _ c.requires.0 c.if-i-inputs.false
