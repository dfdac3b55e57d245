-- docs/RULES.md, "Cases": its cases in its order, over the definitions that the promises of emit_threshold, emit_one_hot,
-- evaluate, the cipher calls and choose cite; the monomials by 001's vector too.
use Prim.Native.Nat.{◌+◌, ◌%◌}
use mathlib.Core.Path.{◌≡◌, refl}
use mathlib.Core.List.{[], ◌∷◌}
use lib.ListN.{get_or, take, drop}
use Rattle.netlist.specs.Net.{eval}
use Rattle.cells.specs.Cells.{cell_gates, row_gates, sum_gates, level_gates, level_after, first_gates, first_level, levels_gates, levels_end, all_gates, last_level, one_hot_net, threshold_part, threshold_net}
use Rattle.filter.specs.Filter.{var, tab, prod, sum_of, ones, threshold}
use Rattle.filter.specs.Papers.{sum, product, direct_sum}
use Rattle.filter.specs.Instances as instances
use Rattle.choice.specs.Choice.{up_to, swap, swaps, chosen}

pub record Edges : Type 0 where
  -- threshold 2 of 3 on 0,1,1: 1; on 1,0,0: 0; 3 of 3 on 1,1,1: 1; 1 of 1 on 1: 1; 4 of 3: 0
  pub two_of_three_met : eval (threshold_net 2 3) (0 ∷ 1 ∷ 1 ∷ []) ≡ 1 ∷ []
  pub two_of_three_missed : eval (threshold_net 2 3) (1 ∷ 0 ∷ 0 ∷ []) ≡ 0 ∷ []
  pub three_of_three : eval (threshold_net 3 3) (1 ∷ 1 ∷ 1 ∷ []) ≡ 1 ∷ []
  pub one_of_one : eval (threshold_net 1 1) (1 ∷ []) ≡ 1 ∷ []
  pub four_of_three : eval (threshold_net 4 3) (1 ∷ 1 ∷ 1 ∷ []) ≡ 0 ∷ []
  -- one-hot of 1,0: 0,1,0; of nothing: 1
  pub one_hot : eval (one_hot_net 2) (1 ∷ 0 ∷ []) ≡ 0 ∷ 1 ∷ 0 ∷ []
  pub one_hot_none : eval (one_hot_net 0) [] ≡ 1 ∷ []
  -- monomials [1,1] on 1,1,1: 0, by the vector and by the degrees, one of 1 and one of 2; triangle of degree 2 on 0,1,1: 1
  pub monomials : direct_sum 1 (1 ∷ 1 ∷ []) 0 (λ i. get_or (1 ∷ 1 ∷ 1 ∷ []) i 0) ≡ 0
  pub monomials_by_degree : sum_of (1 ∷ 2 ∷ []) (1 ∷ 1 ∷ 1 ∷ []) ≡ 0
  pub triangle : sum_of (instances.degrees_to 2) (0 ∷ 1 ∷ 1 ∷ []) ≡ 1
  -- XOR of 2 with 2 of 3 on 1,0,0,1,1: 0
  pub xor_threshold : (sum_of (1 ∷ 1 ∷ []) (1 ∷ 0 ∷ 0 ∷ 1 ∷ 1 ∷ []) + threshold 2 (take 3 (drop 2 (1 ∷ 0 ∷ 0 ∷ 1 ∷ 1 ∷ [])))) % 2 ≡ 0
  -- N = 4, draws 2,2,0: row 2,3,0
  pub four_wires : chosen 4 3 (2 ∷ 2 ∷ 0 ∷ []) ≡ 2 ∷ 3 ∷ 0 ∷ []
  -- key 0,1,1, row 2,0,1, whitening 1,0,0: variables 0,0,1
  pub variables : tab (var (0 ∷ 1 ∷ 1 ∷ []) (2 ∷ 0 ∷ 1 ∷ []) (1 ∷ 0 ∷ 0 ∷ [])) 3 ≡ 0 ∷ 0 ∷ 1 ∷ []

pub edges : Edges
unfolding cell_gates row_gates sum_gates level_gates level_after first_gates first_level levels_gates levels_end all_gates last_level threshold_part threshold_net one_hot_net direct_sum sum product sum_of prod threshold ones tab var chosen swaps swap up_to
edges = record {
  two_of_three_met = refl;
  two_of_three_missed = refl;
  three_of_three = refl;
  one_of_one = refl;
  four_of_three = refl;
  one_hot = refl;
  one_hot_none = refl;
  monomials = refl;
  monomials_by_degree = refl;
  triangle = refl;
  xor_threshold = refl;
  four_wires = refl;
  variables = refl;
}
