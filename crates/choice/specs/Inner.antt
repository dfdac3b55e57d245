-- Inner: only contracts of private functions cite this. Draws that were judged.
use Rattle.std.specs.Prelude.{ℕ, ◌+◌, ◌<◌, ◌≤◌, List, length, get_or}

-- there are at most N draws, and each one's place is one of N
pub record DrawsFit (N : ℕ) (draws : List ℕ) : Type 0 where
  pub count : length draws ≤ N
  pub low : (i : ℕ) → i < length draws → i + get_or draws i 0 < N
