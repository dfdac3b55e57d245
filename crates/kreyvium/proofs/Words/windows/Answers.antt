use Rattle.kreyvium.proofs.Windows.{windows_at}
use borrow.Author.Rules.{rules}
use Rattle.kreyvium.proofs.Words.windows.Goals as goal

pub returns : goal.returns
returns c =
    let a = c.args in
    λ i h. windows_at a.self a.o a.p i (search rules) (search rules) (search rules) h
