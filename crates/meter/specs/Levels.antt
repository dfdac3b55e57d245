-- The level records. docs/RULES.md, "Netlists": record L counts the AND gates and the MUX gates whose depth is L, from 0 up to the
-- largest depth of any gate, or record 0 alone without gates.
use Rattle.std.specs.Prelude.{ℕ, zero, suc, ◌+◌, Bool, true, false, List, [], ◌∷◌, ◌++◌, get_or, drop, eqb}
use Rattle.answer.specs.Choose.{choose}
use Rattle.netlist.specs.Net.{Net, depths, max_of}
use Rattle.netlist.specs.Words.{inputs_of, gates_of, gate_place, net_of}
use Rattle.meter.specs.declared.Level.{Level}
use Rattle.meter.specs.declared.Spot.{Spot}

abbrev pub one : Bool → ℕ
one true = 1
one false = 0

-- the kind codes of the two gates that multiply
abbrev pub and_kind : ℕ
and_kind = 4

abbrev pub mux_kind : ℕ
mux_kind = 5

-- 1 if gate g has the kind code k
abbrev pub of_kind : List ℕ → ℕ → ℕ → ℕ
of_kind net k g = one (eqb (get_or net (gate_place g) 0) k)

-- at which level gate g is counted, where ds has the depth of every wire, and what it adds there and to the multiplications
unfoldable pub spot_of : List ℕ → List ℕ → ℕ → Spot
spot_of net ds g = record {
  at = get_or ds (inputs_of net + g) 0;
  ands = of_kind net and_kind g;
  muxes = of_kind net mux_kind g;
  multiplications = of_kind net and_kind g + of_kind net mux_kind g;
}

-- f 0 + .. + f (n - 1)
unfoldable pub sum_of : (ℕ → ℕ) → ℕ → ℕ
sum_of f zero = 0
sum_of f (suc n) = sum_of f n + f n

-- of the first g gates, how many have the kind code k
abbrev pub kind_count : List ℕ → ℕ → ℕ → ℕ
kind_count net k g = sum_of (of_kind net k) g

-- record l: what those of the first n gates add that are counted at l, where spot says where each is and what it adds
unfoldable pub level_at : (ℕ → Spot) → ℕ → ℕ → Level
level_at spot n l = record {
  ands = sum_of (λ g. choose (eqb (spot g).at l) (spot g).ands 0) n;
  muxes = sum_of (λ g. choose (eqb (spot g).at l) (spot g).muxes 0) n;
}

-- the records 0 .. c - 1
unfoldable pub levels_below : (ℕ → Spot) → ℕ → ℕ → List Level
levels_below spot n zero = []
levels_below spot n (suc c) = levels_below spot n c ++ level_at spot n c ∷ []

-- one more than the largest depth of any gate
abbrev pub level_count : Net → ℕ
level_count n = suc (max_of (drop n.inputs (depths n)))

-- the level records
unfoldable pub levels : List ℕ → List Level
levels net = levels_below (spot_of net (depths (net_of net))) (gates_of net) (level_count (net_of net))

-- the sum of a list
unfoldable pub total : List ℕ → ℕ
total [] = 0
total (x ∷ xs) = x + total xs
