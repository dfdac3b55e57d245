use Rattle.std.proofs.Common.{refl, sym, rules}
use Rattle.answer.proofs.Rows.{each_none, each_more}
use Rattle.sequence.proofs.later_frames.Goals as goal

pub loop-k-init : goal.loop-k-init
loop-k-init c = record { good = each_more 0 _ (each_none _) (sym c.requires.first) refl; carried = search rules }
