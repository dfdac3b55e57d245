-- The rules' table of filters, computed for its chains.
use Prim.Native.Nat.{ℕ, zero, suc, ◌≤◌}
use mathlib.Core.Path.{◌≡◌, refl}
use native.Mathlib.Omega.{arith}
use Rattle.instance.specs.Table.{sizes_of}
use Rattle.filter.specs.Instances.{degrees_of}
use Rattle.filter.proofs.Published.{total}
use Rattle.wiring.specs.Exp.{chain}
use Rattle.wiring.specs.Inner.{fits}
use Rattle.wiring.specs.Costs.{cost_of}
use Rattle.wiring.proofs.Tally.{height}
use Rattle.wiring.proofs.Products.{ands, tallest}
use Rattle.wiring.proofs.Filters.{Known}

pub known_chain : (inst : ℕ) → 1 ≤ inst → inst ≤ 5 → Known chain inst (cost_of inst)
unfolding sizes_of degrees_of total cost_of fits ands tallest chain height
known_chain zero h l = absurd (omega arith)
known_chain (suc zero) h l = record { first = _; others = _; degrees = refl; fit = refl; long = λ e. absurd (let z : ◌≡◌ {A = ℕ} 0 1 = cc in omega arith); times = refl; many = refl; tall = refl }
known_chain (suc (suc zero)) h l = record { first = _; others = _; degrees = refl; fit = refl; long = λ e. absurd (let z : ◌≡◌ {A = ℕ} 0 1 = cc in omega arith); times = refl; many = refl; tall = refl }
known_chain (suc (suc (suc zero))) h l = record { first = _; others = _; degrees = refl; fit = refl; long = λ e. absurd (let z : ◌≡◌ {A = ℕ} 0 1 = cc in omega arith); times = refl; many = refl; tall = refl }
known_chain (suc (suc (suc (suc zero)))) h l = record { first = _; others = _; degrees = refl; fit = refl; long = λ e. absurd (let z : ◌≡◌ {A = ℕ} 0 1 = cc in omega arith); times = refl; many = refl; tall = refl }
known_chain (suc (suc (suc (suc (suc zero))))) h l = record { first = _; others = _; degrees = refl; fit = refl; long = λ e. refl; times = refl; many = refl; tall = refl }
known_chain (suc (suc (suc (suc (suc (suc i)))))) h l = absurd (omega arith)
