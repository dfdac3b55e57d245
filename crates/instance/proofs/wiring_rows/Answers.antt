use native.Mathlib.Omega.{arith}
use mathlib.Core.Path.{◌≡◌, ◌∙◌}
use Rattle.answer.proofs.Rows.{stop_by, go}
use Rattle.instance.specs.Table.{key_bits, row_bits}
use Rattle.instance.specs.Judging.{rows_answer}
use Rattle.instance.specs.Judging.{wiring_rows}
use Rattle.instance.proofs.wiring_rows.Goals.{After-rows}
use Rattle.instance.proofs.wiring_rows.Goals as goal

-- the rows are judged by the table's sizes
rows_are : (c : After-rows) →
    let a = c.args in c.rows.result ≡ rows_answer a.list (key_bits a.instance) (row_bits a.instance) a.indices.now
rows_are c =
    let a = c.args in
    c.rows.ensures ∙ rw (c.from-first.ensures, c.sizes_of-sizes.ensures)

pub returns-in_err-rows : goal.returns-in_err-rows
unfolding wiring_rows
returns-in_err-rows c = stop_by _ (grind arith) (rows_are (goal.at.returns-in_err-rows c).After-rows) c.in_err-rows.was

pub returns : goal.returns
unfolding wiring_rows
returns c = go (rows_are (goal.at.returns c).After-rows) c.in_ok-rows.was (c.whitening.ensures ∙ rw c.from-first.ensures)
