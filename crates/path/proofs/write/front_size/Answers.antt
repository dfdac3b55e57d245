use mathlib.Core.Path.{ap, ◌∙◌}
use Rattle.netlist.specs.Words.{word_count}
use Rattle.path.proofs.write.front_size.Goals as goal

pub returns : goal.returns
returns c = c.word_count.ensures ∙ ap word_count c.counts_of.ensures
