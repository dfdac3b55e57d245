use mathlib.Core.Path.{ap}
use native.Mathlib.Omega.{arith}
use lib.ListN.{length}
use Rattle.emit.proofs.Shapes.{part-cells, part_wrote}
use Rattle.emit.proofs.levels.put_threshold.Goals as goal

pub put_cells-free-requires : goal.put_cells-free-requires
put_cells-free-requires c =
    let a = c.args in
    let e = ap length (part-cells a.next.wire a.d a.ws.now c.requires.in_bounds.0 c.requires.in_bounds.2 c.requires.in_bounds.3) in
    record { in_bounds = (omega arith, omega arith, omega arith, omega arith); next_in_bounds = omega arith }

pub returns : goal.returns
returns c =
    let a = c.args in
    record { wrote = part_wrote a.next.wire a.d a.ws.now a.out.now _ a.next.at _ _ (omega arith) (omega arith) (omega arith) c.put_cells-free.ensures.out_after c.put_cells-free.ensures.value.0 c.down_of.ensures.1; upper_bound = omega arith }
