use mathlib.Core.Path.{ap, ◌∙◌}
use native.Mathlib.Omega.{arith}
use borrow.Author.Tests.{le-ltb}
use Rattle.answer.proofs.Rows.{stop_by, pass, refuse_not}
use Rattle.netlist.specs.Check.{counts_answer, net_answer}
use Rattle.netlist.proofs.check.check_as.Goals as goal

pub returns-in_err-counts : goal.returns-in_err-counts
unfolding net_answer
returns-in_err-counts c =
    pass (refuse_not _ _ _ (le-ltb _ _ c.if-len-lt-HEADER_WORDS.false))
    (stop_by _ (grind arith) (c.counts.ensures ∙ ap (counts_answer _) c.counts_of-c.ensures) c.in_err-counts.was)
