use borrow.Author.Tests.{lt-ltb}
use lib.Dec.{ltb}
use Rattle.cells.specs.Cells.{one_hot_net}
use Rattle.emit.specs.Emit.{one_hot_answer}
use Rattle.emit.proofs.Shapes.{no_shape}
use Rattle.emit.proofs.emit_one_hot.Goals as goal

pub returns-then-n-gt64 : goal.returns-then-n-gt64
unfolding one_hot_answer
returns-then-n-gt64 c =
    let a = c.args in
    no_shape (ltb 64 a.n) (one_hot_net a.n) a.res.now _ (lt-ltb 64 a.n c.if-n-gt64.true) c.refused.ensures
