use mathlib.Core.Path.{refl}
use Rattle.kreyvium.specs.Words.{reg, state_of}
use Rattle.kreyvium.proofs.Loads.{load_ones}
use Rattle.kreyvium.proofs.Windows.{reg-all}
use Rattle.kreyvium.proofs.Streams.{registers_eq}
use Rattle.kreyvium.specs.Kreyvium.{loaded}
use borrow.Author.Rules.{rules}
use Rattle.kreyvium.proofs.State.load.Goals as goal

pub returns : goal.returns
unfolding state_of loaded reg
returns c = registers_eq refl refl (load_ones _ _ (search rules)) (reg-all _) (reg-all _)
