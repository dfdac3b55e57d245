-- A keystream bit of instances 1 to 5 is the papers' own function of the row's variables.
use Prim.Native.Nat.{ℕ, ◌+◌, ◌*◌, ◌%◌, ◌≤◌}
use mathlib.Core.Path.{◌≡◌, ap, ◌∙◌}
use mathlib.Core.List.{List}
use lib.ListN.{get_or, drop}
use lib.Seq.{get_or-drop}
use Rattle.instance.specs.Table.{row_bits}
use Rattle.filter.specs.Filter.{var}
use Rattle.filter.specs.Instances.{row_bit}
use Rattle.filter.specs.Papers.{published}
use Rattle.filter.proofs.Published.{filter-published}
use Rattle.cipher.specs.Rows.{stream_bit}

variables : (key idx wh : List ℕ) (at : ℕ)
    → var key (drop at idx) (drop at wh) ≡ (λ j. (get_or key (get_or idx (at + j) 0) 0 + get_or wh (at + j) 0) % 2)
unfolding var
variables key idx wh at i j = (get_or key (get_or-drop at idx j 0 i) 0 + get_or-drop at wh j 0 i) % 2

pub row-published : (inst : ℕ) (key idx wh : List ℕ) (t : ℕ) → 1 ≤ inst → inst ≤ 5
    → stream_bit inst key idx wh t ≡ published inst (λ j. (get_or key (get_or idx (t * row_bits inst + j) 0) 0 + get_or wh (t * row_bits inst + j) 0) % 2)
unfolding stream_bit row_bit
row-published inst key idx wh t h l =
    filter-published inst h l (var key (drop (t * row_bits inst) idx) (drop (t * row_bits inst) wh))
    ∙ ap (published inst) (variables key idx wh (t * row_bits inst))
