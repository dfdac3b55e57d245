-- What the table of instances and the lists of degrees come to.
use Prim.Native.Nat.{ℕ, zero, suc, ◌≤◌}
use mathlib.Core.Bool.{true}
use mathlib.Core.Path.{◌≡◌, refl, ap, ◌∙◌}
use mathlib.Core.List.{List}
use native.Mathlib.Omega.{arith}
use lib.ListN.{length}
use Rattle.instance.specs.Table.{key_bits, row_bits, sizes_of}
use Rattle.filter.specs.Instances.{degrees_of}
use Rattle.wiring.specs.Inner.{fits}
use Rattle.wiring.specs.Costs.{cost_of}
use Rattle.wiring.proofs.Table.{known_chain}

-- the degrees fit the row, and there are some
pub table_fits : (inst n : ℕ) → 1 ≤ inst → inst ≤ 5 → n ≡ row_bits inst → fits (degrees_of inst) n ≡ true
table_fits inst n a b e =
    let k = known_chain inst a b in
    ap (fits (degrees_of inst)) e ∙ ap (λ (z : List ℕ). fits z (row_bits inst)) k.degrees ∙ k.fit

pub table_some : (inst : ℕ) → 1 ≤ inst → inst ≤ 5 → 1 ≤ length (degrees_of inst)
table_some inst a b = omega (arith, ap length (known_chain inst a b).degrees)

-- how large a row, a bit's gates and a key are
pub record Large (inst : ℕ) : Type 0 where
  pub row_least : 82 ≤ row_bits inst
  pub row_most : row_bits inst ≤ (cost_of inst).gates
  pub bit_most : (cost_of inst).gates ≤ 1394
  pub key_most : key_bits inst ≤ 16384

pub large : (inst : ℕ) → 1 ≤ inst → inst ≤ 5 → Large inst
unfolding sizes_of cost_of
large zero h l = absurd (omega arith)
large (suc zero) h l = record { row_least = omega arith; row_most = omega arith; bit_most = omega arith; key_most = omega arith }
large (suc (suc zero)) h l = record { row_least = omega arith; row_most = omega arith; bit_most = omega arith; key_most = omega arith }
large (suc (suc (suc zero))) h l = record { row_least = omega arith; row_most = omega arith; bit_most = omega arith; key_most = omega arith }
large (suc (suc (suc (suc zero)))) h l = record { row_least = omega arith; row_most = omega arith; bit_most = omega arith; key_most = omega arith }
large (suc (suc (suc (suc (suc zero))))) h l = record { row_least = omega arith; row_most = omega arith; bit_most = omega arith; key_most = omega arith }
large (suc (suc (suc (suc (suc (suc i)))))) h l = absurd (omega arith)

-- but for FiLIP-144 a bit has a gate for each place of the row
pub bit_plain : (inst : ℕ) → (inst ≡ 5 → ⊥) → row_bits inst ≡ (cost_of inst).gates
unfolding sizes_of cost_of
bit_plain zero h = refl
bit_plain (suc zero) h = refl
bit_plain (suc (suc zero)) h = refl
bit_plain (suc (suc (suc zero))) h = refl
bit_plain (suc (suc (suc (suc zero)))) h = refl
bit_plain (suc (suc (suc (suc (suc zero))))) h = absurd (h refl)
bit_plain (suc (suc (suc (suc (suc (suc zero)))))) h = refl
bit_plain (suc (suc (suc (suc (suc (suc (suc i))))))) h = refl

pub bit_five : (inst : ℕ) → inst ≡ 5 → (cost_of inst).gates ≡ 1197
unfolding cost_of
bit_five inst e = ap (λ (i : ℕ). (cost_of i).gates) e
