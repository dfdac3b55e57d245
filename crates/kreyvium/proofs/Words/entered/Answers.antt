use Rattle.kreyvium.proofs.Windows.{got-one}
use Rattle.kreyvium.proofs.Words.entered.Goals as goal

pub returns : goal.returns
returns c = λ n h. got-one n _ _ _ _ h (rw c.risen.ensures at c.window.ensures) c.window-2.ensures
