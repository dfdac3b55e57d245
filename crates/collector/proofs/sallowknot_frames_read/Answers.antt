use Rattle.daemon.proofs.Numbers.{packed_due}
use Rattle.collector.proofs.Numbers.{left_by, read_small}
use Rattle.collector.proofs.sallowknot_frames_read.Goals as goal

pub returns : goal.returns
returns c =
    let x = c.read.ensures in
    record {
      answered = packed_due c.packed.ensures x.answered (read_small _ _ _);
      written = left_by _ _ x.answered x.written;
    }
