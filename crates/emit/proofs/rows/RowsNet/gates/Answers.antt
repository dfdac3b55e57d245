use Rattle.emit.proofs.RowsNet.{count_is, count_small, white_small}
use Rattle.emit.proofs.rows.RowsNet.gates.Goals as goal

pub count_ones-requires : goal.count_ones-requires
count_ones-requires c = let w = c.args.self.wiring in white_small _ _ _ w.few w.rows.whitening

pub returns : goal.returns
returns c =
    let w = c.args.self.wiring in
    let q = count_small _ _ _ _ _ w.few w.rows.whitening c.count_ones.ensures c.bit_gates.ensures.1 in
    (count_is _ _ _ _ _ _ w.low w.high w.rows c.count_ones.ensures c.bit_gates.ensures.0, q.total)
