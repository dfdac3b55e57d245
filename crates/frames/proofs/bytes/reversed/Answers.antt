use Rattle.frames.proofs.Reversal.{all_reversed}
use Rattle.frames.proofs.bytes.reversed.Goals as goal

pub returns : goal.returns
returns c = rw (c.exchanged.ensures, c.exchanged-e.ensures, c.exchanged-d.ensures, c.exchanged-c.ensures, c.exchanged-b.ensures, c.exchanged-a.ensures) (all_reversed _)
