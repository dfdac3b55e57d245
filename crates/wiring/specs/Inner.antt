-- Inner: only contracts of private functions cite this.
use Rattle.std.specs.Prelude.{ℕ, ◌-◌, Bool, true, false, List, [], ◌∷◌, leb, ltb}

abbrev pub both : Bool → Bool → Bool
both true b = b
both false b = false

-- degrees from 1 on that n wires suffice for: a test that computes
unfoldable pub fits : List ℕ → ℕ → Bool
fits [] n = true
fits (d ∷ ds) n = both (ltb 0 d) (both (leb d n) (fits ds (n - d)))
