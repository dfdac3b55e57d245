use Prim.Native.Nat.{◌+◌, ◌-◌, ◌*◌}
use mathlib.Core.Path.{◌≡◌}
use lib.ListN.{length}
use Rattle.cells.specs.InnerLoop.{tail}
use Rattle.netlist.specs.Put.{put_gates}
use Rattle.emit.proofs.levels.put_tail.Given as goal

abbrev pub invariant-loop-cell : goal.invariant-loop-cell
invariant-loop-cell l =
    (put_gates l.out l.i (tail l.x l.before l.cell (l.second + l.more - l.cell)) ≡ put_gates l.initial.out l.at (tail l.x l.first l.second l.more)) × (length l.out ≡ length l.initial.out) × (l.i + 4 * l.second ≡ l.at + 4 * l.cell)
