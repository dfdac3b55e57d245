use mathlib.Core.Path.{refl}
use Rattle.emit.proofs.RowsSum.{term_wrote}
use Rattle.emit.proofs.rows.put_term.Goals as goal

pub returns : goal.returns
returns c =
    term_wrote _ _ _ _ _ _ _ _ _ _ _ c.requires.0 refl c.past-end.ensures.at_is c.past-end.ensures.wire_is c.put_chain-w.ensures c.put_gate.ensures
