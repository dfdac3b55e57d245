use mathlib.Core.Path.{refl}
use Rattle.vectors.proofs.Turning.{onto_turned, turn-start}
use Rattle.vectors.proofs.reversed.turned.Goals as goal

pub returns : goal.returns
returns c = rw c.reverse_bits.ensures (onto_turned c.args.x 64 _ 0 0 refl (turn-start _))
