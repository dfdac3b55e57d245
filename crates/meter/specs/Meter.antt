-- The meter. docs/RULES.md, "Netlists": it fills a depth list and a list of level records, and returns depth and multiplications.
-- Lists: 1 the netlist, 2 the depths, 3 the levels.
use Rattle.std.specs.Prelude.{ℕ, ◌+◌, ◌≡◌, List, length}
use Rattle.answer.specs.Answers.{Answer, ◌▹◌, if_done}
use Rattle.answer.specs.Fronts.{left}
use Rattle.answer.specs.Judges.{room_answer}
use Rattle.netlist.specs.Net.{depths, depth, mults}
use Rattle.netlist.specs.Words.{inputs_of, gates_of, net_of}
use Rattle.netlist.specs.Check.{net_answer}
use Rattle.meter.specs.declared.Level.{Level}
use Rattle.meter.specs.declared.Metered.{Metered}
use Rattle.meter.specs.Levels.{level_count, levels}

-- 9, then 8 on the depth list, for which d words are lent
unfoldable pub depths_answer : List ℕ → ℕ → Answer
depths_answer net d = net_answer 1 net ▹ room_answer 2 d (inputs_of net + gates_of net)

-- 8 on the level list, for which l records are lent
unfoldable pub levels_answer : List ℕ → ℕ → Answer
levels_answer net l = room_answer 3 l (level_count (net_of net))

unfoldable pub meter_answer : List ℕ → ℕ → ℕ → Answer
meter_answer net d l = depths_answer net d ▹ levels_answer net l

-- What a call that was lent net, ds and ls returns, and what it leaves in the last two. The depths are filled even where
-- only the level list is too short: the rules' one exception.
pub record MeteredAs (net ds : List ℕ) (ls : List Level) (r : Metered) (ds' : List ℕ) (ls' : List Level) : Type 0 where
  pub answered : r.answer ≡ meter_answer net (length ds) (length ls)
  pub deep : r.depth ≡ if_done r.answer (depth (net_of net))
  pub multiplied : r.multiplications ≡ if_done r.answer (mults (net_of net))
  pub filled : ds' ≡ left (depths_answer net (length ds)) (depths (net_of net)) ds
  pub counted : ls' ≡ left r.answer (levels net) ls
