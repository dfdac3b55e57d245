use mathlib.Core.Path.{sym, ◌∙◌}
use Rattle.instance.proofs.Judged.{below_done}
use Rattle.instance.proofs.rows.Goals as goal

pub distinct-requires : goal.distinct-requires
distinct-requires c = below_done _ _ _ (sym c.below.ensures ∙ c.in_ok-below.was)
