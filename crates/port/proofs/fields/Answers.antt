use mathlib.Core.Path.{sym, ◌∙◌}
use native.Mathlib.Omega.{arith}
use Rattle.answer.proofs.Rows.{withheld}
use Rattle.port.specs.Layout.{port_of}
use Rattle.port.proofs.Layouts.{same_port, found_go}
use Rattle.port.proofs.fields.Goals as goal

pub returns-in_err-judge : goal.returns-in_err-judge
returns-in_err-judge c = withheld _ (grind arith) (sym c.judge.ensures ∙ c.in_err-judge.was)

pub returns : goal.returns
unfolding port_of
returns c =
    found_go c.judge.ensures c.in_ok-judge.was
    (same_port c.number_at.ensures c.number_at-2.ensures c.number_at-3.ensures c.number_at-4.ensures c.number_at-5.ensures)
