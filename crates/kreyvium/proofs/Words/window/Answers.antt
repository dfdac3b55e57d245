use Rattle.kreyvium.proofs.Windows.{window_bits}
use borrow.Author.Rules.{rules}
use Rattle.kreyvium.proofs.Words.window.Goals as goal

pub returns : goal.returns
returns c =
    let a = c.args in
    window_bits a.self a.o (search rules) (search rules)
