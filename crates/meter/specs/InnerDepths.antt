-- Inner: only contracts of private functions cite this. The passes that measure an accepted netlist: what each is lent, and
-- what it leaves.
use Rattle.std.specs.Prelude.{ℕ, ◌+◌, ◌≤◌, ◌≡◌, List, length, replicate, Result}
use Rattle.answer.specs.declared.Refusal.{Refusal}
use Rattle.answer.specs.Answers.{giving}
use Rattle.answer.specs.Fronts.{left}
use Rattle.netlist.specs.Net.{run, dep_alg, depths, depth}
use Rattle.netlist.specs.Words.{header_words, inputs_of, gates_of, gates_at, net_of}
use Rattle.netlist.specs.Sound.{Sound}
use Rattle.meter.specs.declared.Measured.{Measured}
use Rattle.meter.specs.Levels.{level_count}
use Rattle.meter.specs.Meter.{depths_answer, meter_answer}

-- the depths of the inputs and of the first g gates
unfoldable pub depths_to : List ℕ → ℕ → List ℕ
depths_to net g = run dep_alg (replicate (inputs_of net) 0) (gates_at net header_words g)

-- an accepted netlist, its counts, and a depth list with a word for each wire
pub record DepthsLent (net : List ℕ) (i g : ℕ) (ds : List ℕ) : Type 0 where
  pub sound : Sound net
  pub inputs : i ≡ inputs_of net
  pub gates : g ≡ gates_of net
  pub room : i + g ≤ length ds

-- what is told of an accepted netlist's depths
unfoldable pub told_of : List ℕ → Measured
told_of net = record { depth = depth (net_of net); levels = level_count (net_of net) }

-- What a call that was lent net and ds tells, and what it leaves in ds.
pub record MeasuredAs (net ds : List ℕ) (r : Result Measured Refusal) (ds' : List ℕ) : Type 0 where
  pub answered : r ≡ giving (depths_answer net (length ds)) (told_of net)
  pub filled : ds' ≡ left (depths_answer net (length ds)) (depths (net_of net)) ds

-- the same where room level records are judged too
pub record PreparedAs (net ds : List ℕ) (room : ℕ) (r : Result Measured Refusal) (ds' : List ℕ) : Type 0 where
  pub answered : r ≡ giving (meter_answer net (length ds) room) (told_of net)
  pub filled : ds' ≡ left (depths_answer net (length ds)) (depths (net_of net)) ds
