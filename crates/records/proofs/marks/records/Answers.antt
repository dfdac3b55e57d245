use native.Mathlib.Omega.{arith}
use Rattle.records.proofs.Judged.{outs_stop, whole_counts_lem}
use Rattle.records.proofs.marks.records.Goals as goal

pub returns-in_err-out_records : goal.returns-in_err-out_records
returns-in_err-out_records c =
    outs_stop _ _ _ (whole_counts_lem _ c.requires c.counts_in-counts.ensures) c.gate_records.ensures c.in_ok-from.was c.out_records.ensures c.in_err-out_records.was (grind arith)
