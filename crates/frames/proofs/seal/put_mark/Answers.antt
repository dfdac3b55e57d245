use mathlib.Core.Path.{refl}
use Rattle.port.proofs.Parts.{wrote_front}
use Rattle.frames.specs.Inner.{mark_bytes}
use Rattle.frames.proofs.seal.put_mark.Goals as goal

pub returns : goal.returns
returns c = wrote_front 2 c.args.out.now mark_bytes refl c.copy_from_slice.ensures.after
