use Rattle.daemon.proofs.Numbers.{packed_due}
use Rattle.collector.proofs.Numbers.{left_by, append_small}
use Rattle.collector.proofs.sallowknot_frames_append.Goals as goal

pub returns : goal.returns
returns c =
    let x = c.append.ensures in
    record {
      answered = packed_due c.packed.ensures x.answered (append_small _ _ _ _ _);
      written = left_by _ _ x.answered x.written;
    }
