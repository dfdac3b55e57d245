-- The spots of a netlist's gates: the one place that knows which gates multiply. What is counted of them is what the rules count.
use Prim.Native.Nat.{ℕ, zero, suc, ◌+◌, ◌≤◌}
use mathlib.Core.Path.{◌≡◌, refl, sym, ap, ◌∙◌}
use mathlib.Core.Bool.{Bool, true, false}
use mathlib.Core.List.{List, [], ◌∷◌, ◌++◌, map}
use native.Mathlib.Omega.{arith}
use native.Mathlib.Numerals.{add-one}
use mir.Val.{bool_byte}
use lib.Dec.{eqb}
use lib.ListN.{get_or}
use borrow.Author.Tests.{ne_eqb}
use Rattle.netlist.specs.declared.gate.Gate.{Gate}
use Rattle.netlist.specs.Gates.{taken_of, gate_of}
use Rattle.netlist.specs.Net.{depths, mul_of, muls_of, mults}
use Rattle.netlist.specs.Words.{header_words, inputs_of, gates_of, gate_place, gate_at, gates_at, net_of}
use Rattle.netlist.proofs.Words.{gates_snoc}
use Rattle.meter.specs.Levels.{one, and_kind, mux_kind, of_kind, spot_of, kind_count, level_count, levels, total}
use Rattle.meter.specs.InnerLevels.{gained, Slight}
use Rattle.meter.proofs.Depths.{gate_level}
use Rattle.meter.proofs.Levels.{sum_none, sum_more, sum_add, total-ands, total-muxes}

pub one_le : (t : Bool) → one t ≤ 1
one_le true = omega arith
one_le false = omega arith

pub one_is : (t : Bool) → bool_byte t ≡ one t
one_is true = refl
one_is false = refl

module _ (net ds : List ℕ) (g : ℕ) where
  pub spot_at : (spot_of net ds g).at ≡ get_or ds (inputs_of net + g) 0
  unfolding spot_of
  spot_at = refl

  pub spot_slight : Slight (spot_of net ds g)
  unfolding spot_of
  spot_slight =
      let a = one_le (eqb (get_or net (gate_place g) 0) and_kind) in
      let m = one_le (eqb (get_or net (gate_place g) 0) mux_kind) in
      (a, m, omega (arith, a, m))

  -- a spot is its gate's and its depth's
  pub spot_agree : (ds' : List ℕ) → get_or ds (inputs_of net + g) 0 ≡ get_or ds' (inputs_of net + g) 0 → spot_of net ds g ≡ spot_of net ds' g
  unfolding spot_of
  spot_agree ds' e i =
      record {
        at = e i;
        ands = of_kind net and_kind g;
        muxes = of_kind net mux_kind g;
        multiplications = of_kind net and_kind g + of_kind net mux_kind g;
      }

-- Over the levels each count sums to the number of gates of its kind.
pub levels-sum : (net : List ℕ)
    → (total (map (λ l. l.ands) (levels net)) ≡ kind_count net and_kind (gates_of net)) × (total (map (λ l. l.muxes) (levels net)) ≡ kind_count net mux_kind (gates_of net))
unfolding levels spot_of
levels-sum net =
    let D = depths (net_of net) in
    let n = level_count (net_of net) in (
      total-ands (spot_of net D) (gates_of net) n (λ j l. gate_level (net_of net) j),
      total-muxes (spot_of net D) (gates_of net) n (λ j l. gate_level (net_of net) j),
    )

-- The multiplications are the gates of the two kinds.
mul_of_lem : (k a b c : ℕ) → mul_of (gate_of k a b c) ≡ one (eqb k and_kind) + one (eqb k mux_kind)
unfolding gate_of taken_of
mul_of_lem zero a b c = refl
mul_of_lem (suc zero) a b c = refl
mul_of_lem (suc (suc zero)) a b c = refl
mul_of_lem (suc (suc (suc zero))) a b c = refl
mul_of_lem (suc (suc (suc (suc zero)))) a b c = refl
mul_of_lem (suc (suc (suc (suc (suc zero))))) a b c = refl
mul_of_lem (suc (suc (suc (suc (suc (suc k)))))) a b c =
    rw (ne_eqb (suc (suc (suc (suc (suc (suc k)))))) 4 (λ e. omega arith), ne_eqb (suc (suc (suc (suc (suc (suc k)))))) 5 (λ e. omega arith))

muls_snoc : (gs : List Gate) (g : Gate) → muls_of (gs ++ g ∷ []) ≡ muls_of gs + mul_of g
muls_snoc [] g = omega arith
muls_snoc (x ∷ gs) g = omega (arith, muls_snoc gs g)

gained-muls : (net ds : List ℕ) (g : ℕ) → gained (spot_of net ds) g ≡ muls_of (gates_at net header_words g)
unfolding spot_of
gained-muls net ds zero = sym (sum_none _)
gained-muls net ds (suc g) =
    let e : gates_at net header_words (suc g) ≡ gates_at net header_words g ++ gate_at net (gate_place g) ∷ [] = rw (add-one g) at (gates_snoc net header_words g) in
    omega (arith, ap muls_of e, muls_snoc (gates_at net header_words g) (gate_at net (gate_place g)), mul_of_lem (get_or net (gate_place g) 0) (get_or net (gate_place g + 1) 0) (get_or net (gate_place g + 2) 0) (get_or net (gate_place g + 3) 0), sum_more (λ j. of_kind net and_kind j + of_kind net mux_kind j) g, gained-muls net ds g)

pub gained-mults : (net ds : List ℕ) → gained (spot_of net ds) (gates_of net) ≡ mults (net_of net)
gained-mults net ds = gained-muls net ds (gates_of net)

pub kinds_mults : (net : List ℕ) → kind_count net and_kind (gates_of net) + kind_count net mux_kind (gates_of net) ≡ mults (net_of net)
unfolding spot_of
kinds_mults net = sym (sum_add (of_kind net and_kind) (of_kind net mux_kind) (gates_of net)) ∙ gained-mults net []
