use Rattle.kreyvium.proofs.Streams.{first_out}
use native.Mathlib.Omega.{arith}
use borrow.Author.Rules.{rules}
use Rattle.kreyvium.proofs.State.output.Goals as goal

pub returns : goal.returns
returns c = first_out _ _ (search rules) (c.outputs64.ensures 1 (omega arith))
