use Rattle.emit.proofs.RowsTable.{table_fits, table_some}
use Rattle.emit.proofs.rows.Variables.put_sum.Goals as goal

pub put_monomials-requires : goal.put_monomials-requires
put_monomials-requires c =
    rw c.degrees.ensures
    (record { in_bounds = (table_some c.args.self.instance c.args.self.low c.args.self.high, table_fits c.args.self.instance _ c.args.self.low c.args.self.high c.args.self.whole); xs_in_bounds = c.requires.xs_in_bounds })

pub returns : goal.returns
returns c = rw c.degrees.ensures at c.put_monomials.ensures
