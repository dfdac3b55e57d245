use mathlib.Core.Path.{refl}
use Rattle.std.proofs.Common.{rules}
use Rattle.emit.proofs.RowsNet.{front_long}
use Rattle.emit.proofs.rows.RowsNet.put.Goals as goal

pub put_net-requires : goal.put_net-requires
put_net-requires c =
    record {
      lengths = (front_long _ _ _ c.row_bits-row.ensures.0 (search rules), front_long _ _ _ refl (search rules));
      m_in_bounds = c.requires;
    }
