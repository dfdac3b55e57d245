use mathlib.Core.Path.{◌∙◌}
use Rattle.port.proofs.Parts.{wrote_front}
use Rattle.frames.proofs.Turned.{word_bytes}
use Rattle.frames.proofs.Sealing.{packed-length}
use Rattle.frames.proofs.bytes.put_word.Goals as goal

pub returns : goal.returns
returns c = wrote_front 8 c.args.out.now _ (packed-length 8 _) (c.copy_from_slice.ensures.after ∙ c.to_be_bytes.ensures ∙ word_bytes c.args.x)
