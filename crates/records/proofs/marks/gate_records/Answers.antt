use native.Mathlib.Omega.{arith}
use Rattle.records.proofs.Judged.{walk_stop}
use Rattle.records.proofs.marks.gate_records.Goals as goal

pub returns-in_err-record : goal.returns-in_err-record
returns-in_err-record c =
    walk_stop _ _ c.loop-g-test.true c.loop-g.invariant.0 c.loop-g.invariant.1 c.size_at-size.ensures.0 c.record.ensures c.in_err-record.was (grind arith)
