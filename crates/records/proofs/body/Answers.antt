use native.Mathlib.Omega.{arith}
use Rattle.records.proofs.Judged.{body_stop}
use Rattle.records.proofs.body.Goals as goal

pub returns-in_err-from : goal.returns-in_err-from
returns-in_err-from c = body_stop _ _ c.records.ensures c.in_err-from.was (grind arith)
