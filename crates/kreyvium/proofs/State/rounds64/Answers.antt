use Rattle.kreyvium.proofs.Blocks.{block_next}
use Rattle.kreyvium.proofs.State.rounds64.Goals as goal

pub returns : goal.returns
returns c =
    rw (c.risen.ensures, c.risen-2.ensures, c.risen-3.ensures, c.risen-4.ensures, c.risen-5.ensures)
    (block_next c.args.self _ c.entry-e.ensures)
