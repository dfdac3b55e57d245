use Rattle.emit.proofs.RowsVariables.{flips_told}
use Rattle.emit.proofs.rows.put_not.Goals as goal

pub returns-clause-value : goal.returns-clause-value
returns-clause-value c = flips_told c.args.w c.from.ensures
