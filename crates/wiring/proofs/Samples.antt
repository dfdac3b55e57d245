-- Small cases, computed, to see the gates in the rules' order.
use mathlib.Core.Path.{◌≡◌, refl}
use mathlib.Core.List.{[], ◌∷◌}
use Rattle.netlist.specs.declared.gate.Gate.TheVariants.{Not, Xor, And, Mux}
use Rattle.netlist.specs.Part.{past, input, join}
use Rattle.cells.specs.Cells.{cell_gates, row_gates, sum_gates, level_gates, level_after, first_gates, first_level, levels_gates, levels_end, all_gates, last_level, threshold_part}
use Rattle.wiring.specs.Exp.{emit, sum, wire, least, factors, chain, product, add_all, monomials}
use Rattle.wiring.specs.Decipher.{nots, vars}

-- behind 20 wires, a row with two whitening ones: their NOTs are wires 20 and 21
pub sample_nots : nots (5 ∷ 6 ∷ 7 ∷ 8 ∷ 9 ∷ 3 ∷ []) (0 ∷ 1 ∷ 0 ∷ 1 ∷ 0 ∷ 0 ∷ []) ≡ Not 6 ∷ Not 8 ∷ []
unfolding nots
sample_nots = refl

pub sample_vars : vars 20 (5 ∷ 6 ∷ 7 ∷ 8 ∷ 9 ∷ 3 ∷ []) (0 ∷ 1 ∷ 0 ∷ 1 ∷ 0 ∷ 0 ∷ []) ≡ 5 ∷ 20 ∷ 7 ∷ 21 ∷ 9 ∷ 3 ∷ []
unfolding vars
sample_vars = refl

-- a triangle of degree 3 over these, and the record's bit at wire 12
pub sample_triangle : (emit 22 (sum (monomials chain (1 ∷ 2 ∷ 3 ∷ []) (5 ∷ 20 ∷ 7 ∷ 21 ∷ 9 ∷ 3 ∷ [])) (wire 12))).gates
    ≡ And 20 7 ∷ Xor 5 22 ∷ And 21 9 ∷ And 24 3 ∷ Xor 23 25 ∷ Xor 26 12 ∷ []
unfolding emit monomials add_all product chain factors join past input
sample_triangle = refl

-- XOR of 2 with 2 of 3: the XOR chain, the threshold, XOR of both; then the record's bit
pub sample_threshold : (emit 20 (sum (sum (monomials chain (1 ∷ 1 ∷ []) (5 ∷ 6 ∷ 0 ∷ 1 ∷ 2 ∷ [])) (least 2 (0 ∷ 1 ∷ 2 ∷ []))) (wire 12))).gates
    ≡ Xor 5 6 ∷ Not 0 ∷ Mux 1 0 21 ∷ And 0 1 ∷ And 22 2 ∷ Xor 24 23 ∷ Xor 20 25 ∷ Xor 26 12 ∷ []
unfolding emit monomials add_all product chain factors join past input threshold_part all_gates last_level levels_end levels_gates level_gates level_after first_gates first_level row_gates cell_gates sum_gates
sample_threshold = refl
