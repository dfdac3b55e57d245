-- Inner: only contracts of private functions cite this. The pass that counts the gates of a measured netlist: what it is
-- lent, and what it leaves. It counts any spots; which gates multiply, `spot_of` alone says.
use Rattle.std.specs.Prelude.{ℕ, zero, suc, ◌+◌, ◌<◌, ◌≤◌, ◌≡◌, List, length, get_or, set}
use Rattle.netlist.specs.Words.{inputs_of, gates_of, gate_place}
use Rattle.netlist.specs.Check.{gate_limit}
use Rattle.meter.specs.declared.Level.{Level}
use Rattle.meter.specs.declared.Spot.{Spot}
use Rattle.meter.specs.Levels.{spot_of, sum_of}

abbrev pub no_gates : Level
no_gates = record { ands = 0; muxes = 0 }

-- a record with what a spot adds
abbrev pub bump : Level → Spot → Level
bump v s = record { ands = v.ands + s.ands; muxes = v.muxes + s.muxes }

-- the spot s counted in the records ls
unfoldable pub with_spot : Spot → List Level → List Level
with_spot s ls = set ls s.at (bump (get_or ls s.at no_gates) s)

-- the first n spots counted in the records ls
unfoldable pub tallied : (ℕ → Spot) → ℕ → List Level → List Level
tallied spot zero ls = ls
tallied spot (suc n) ls = with_spot (spot n) (tallied spot n ls)

-- what the first n spots multiply
abbrev pub gained : (ℕ → Spot) → ℕ → ℕ
gained spot n = sum_of (λ g. (spot g).multiplications) n

-- gate g's words and its depth stand, where i is the number of inputs
pub record Stands (net ds : List ℕ) (i g : ℕ) : Type 0 where
  pub inputs : i ≡ inputs_of net
  pub word : gate_place g < length net
  pub wire : i + g < length ds

-- a spot adds at most one gate of each of the two kinds
abbrev pub Slight : Spot → Type 0
Slight s = (s.ands ≤ 1) × (s.muxes ≤ 1) × (s.multiplications ≤ 2)

-- n spots that can be counted in c records: each is slight, and at one of them
pub record Countable (spot : ℕ → Spot) (n c : ℕ) : Type 0 where
  pub limit : n ≤ gate_limit
  pub slight : (k : ℕ) → k < n → Slight (spot k)
  pub low : (k : ℕ) → k < n → (spot k).at < c

-- the spots of n gates that stand, for the records ls, which count no gate where these are
pub record Tallies (net ds : List ℕ) (i n : ℕ) (ls : List Level) : Type 0 where
  pub stands : (k : ℕ) → k < n → Stands net ds i k
  pub countable : Countable (spot_of net ds) n (length ls)
  pub none : (k : ℕ) → k < n → get_or ls (spot_of net ds k).at no_gates ≡ no_gates

-- the same for all gates and c records, which are still to be cleared
pub record Clears (net ds : List ℕ) (c : ℕ) : Type 0 where
  pub stands : (k : ℕ) → k < gates_of net → Stands net ds (inputs_of net) k
  pub countable : Countable (spot_of net ds) (gates_of net) c
