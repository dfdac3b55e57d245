use Rattle.std.proofs.Common.{ap, not, ◌∙◌, arith}
use Rattle.answer.proofs.Rows.{each_stop, each_none}
use Rattle.sequence.proofs.Judged.{frame_bad}
use Rattle.sequence.proofs.whole_frames.Goals as goal

pub returns-then-not-marked : goal.returns-then-not-marked
returns-then-not-marked c =
    each_stop _ 0 _ (omega arith) (each_none _)
    (c.refused.ensures ∙ frame_bad _ _ 0 c.marked.ensures (ap not c.if-not-marked.true))
    c.refused.ensures
