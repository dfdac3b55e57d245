use Prim.Native.Nat.{◌*◌}
use mathlib.Core.Path.{◌≡◌, ◌∙◌}
use Rattle.instance.specs.Table.{row_bits}
use native.Mathlib.Omega.{arith}
use Rattle.answer.proofs.Rows.{stop_by, go}
use Rattle.answer.specs.Judges.{length_answer}
use Rattle.instance.proofs.Judged.{below}
use Rattle.instance.specs.Judging.{wiring_lengths}
use borrow.Author.Rules.{rules}
use Rattle.instance.proofs.wiring_lengths.Goals.{After-exact}
use Rattle.instance.proofs.wiring_lengths.Goals as goal

-- the indices are judged by the table's row
indices_are : (c : After-exact) →
    let a = c.args in c.exact.result ≡ length_answer a.list a.indices (a.m * row_bits a.instance)
indices_are c =
    let a = c.args in
    c.exact.ensures ∙ rw (c.from-first.ensures, c.row_bits-row.ensures.0)

pub overflow_mul-m : goal.overflow_mul-m
overflow_mul-m c = record { fits = below 32 (search rules) (omega (arith, c.row_bits-row.ensures.1)) }

pub returns-in_err-exact : goal.returns-in_err-exact
unfolding wiring_lengths
returns-in_err-exact c = stop_by _ (grind arith) (indices_are (goal.at.returns-in_err-exact c).After-exact) c.in_err-exact.was

pub returns : goal.returns
unfolding wiring_lengths
returns c =
    let a = c.args in
    go (indices_are (goal.at.returns c).After-exact) c.in_ok-exact.was
    (c.exact-2.ensures ∙ rw (c.from-first.ensures, c.whitening_bits.ensures))
