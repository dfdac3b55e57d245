-- The rules' printed netlist, threshold 2 of 3, and the smallest others.
use mathlib.Core.Path.{◌≡◌, refl}
use mathlib.Core.List.{[], ◌∷◌}
use Rattle.netlist.specs.declared.gate.Gate.TheVariants.{Zero, One, Not, Xor, And, Mux}
use Rattle.cells.specs.Cells.{cell_gates, row_gates, sum_gates, level_gates, level_after, first_gates, first_level, levels_gates, levels_end, all_gates, last_level, one_hot_net, threshold_part, threshold_net}

pub two_of_three : threshold_net 2 3 ≡ record { inputs = 3; gates = Not 0 ∷ Mux 1 0 3 ∷ And 0 1 ∷ And 4 2 ∷ Xor 6 5 ∷ []; outs = 7 ∷ [] }
unfolding cell_gates row_gates sum_gates level_gates level_after first_gates first_level levels_gates levels_end all_gates last_level threshold_part threshold_net
two_of_three = refl

pub one_of_one : threshold_net 1 1 ≡ record { inputs = 1; gates = []; outs = 0 ∷ [] }
unfolding cell_gates row_gates sum_gates level_gates level_after first_gates first_level levels_gates levels_end all_gates last_level threshold_part threshold_net
one_of_one = refl

one_of_none : threshold_net 1 0 ≡ record { inputs = 0; gates = Zero ∷ []; outs = 0 ∷ [] }
unfolding threshold_part threshold_net
one_of_none = refl

one_hot_of_two : one_hot_net 2 ≡ record { inputs = 2; gates = Not 0 ∷ Not 1 ∷ And 2 3 ∷ Mux 1 0 2 ∷ And 0 1 ∷ []; outs = 4 ∷ 5 ∷ 6 ∷ [] }
unfolding cell_gates row_gates sum_gates level_gates level_after first_gates first_level levels_gates levels_end all_gates last_level one_hot_net
one_hot_of_two = refl

pub one_hot_of_one : one_hot_net 1 ≡ record { inputs = 1; gates = Not 0 ∷ []; outs = 1 ∷ 0 ∷ [] }
unfolding first_gates first_level levels_gates levels_end all_gates last_level one_hot_net
one_hot_of_one = refl

pub one_hot_of_none : one_hot_net 0 ≡ record { inputs = 0; gates = One ∷ []; outs = 0 ∷ [] }
unfolding one_hot_net
one_hot_of_none = refl
