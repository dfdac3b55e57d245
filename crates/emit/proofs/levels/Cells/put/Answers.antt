use Prim.Native.Nat.{ℕ}
use mathlib.Core.Path.{ap, ◌∙◌}
use mathlib.Core.List.{List}
use native.Mathlib.Omega.{arith}
use Rattle.netlist.specs.Words.{header_words}
use Rattle.netlist.specs.Put.{put_gates}
use Rattle.netlist.proofs.Glued.{up_from-length, up_from-at}
use Rattle.cells.specs.InnerLoop.{cells}
use Rattle.emit.proofs.Shapes.{wires_taken}
use Rattle.emit.proofs.levels.Cells.put.Goals as goal

pub put_cells-requires : goal.put_cells-requires
put_cells-requires c =
    let n = c.args.self.n in
    let e = wires_taken n _ _ (omega arith) c.put_wires.ensures in
    rw e (record { in_bounds = (omega (arith, up_from-length 0 n), omega (arith, up_from-length 0 n), omega arith, omega (arith, up_from-at 0 n 0 (omega arith))); next_in_bounds = omega arith })

pub returns : goal.returns
returns c =
    let a = c.args in
    c.put_cells.ensures.out_after ∙ ap (λ (w : List ℕ). put_gates a.out.now header_words (cells w a.self.lows a.self.highs a.self.n)) (wires_taken a.self.n _ _ (omega arith) c.put_wires.ensures)
