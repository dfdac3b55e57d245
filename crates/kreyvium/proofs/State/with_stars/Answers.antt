use mathlib.Core.Path.{refl}
use Rattle.kreyvium.specs.Words.{state_of}
use Rattle.kreyvium.proofs.Windows.{reg-all}
use Rattle.kreyvium.proofs.Streams.{registers_eq}
use Rattle.kreyvium.proofs.State.with_stars.Goals as goal

pub returns : goal.returns
unfolding state_of
returns c = registers_eq refl refl refl (reg-all _) (reg-all _)
