use native.Mathlib.Omega.{arith}
use Rattle.netlist.specs.Glue.{up_from}
use Rattle.netlist.proofs.Glued.{up_from-length, up_from-at}
use Rattle.emit.proofs.Climbing.{counting_start, counting_fits, counting_next, counting_end}
use Rattle.emit.proofs.Leaves.{pos_le}
use Rattle.emit.proofs.levels.Cells.count.Goals as goal

pub first_level-r-requires : goal.first_level-r-requires
first_level-r-requires c = (omega arith, omega (arith, pos_le c.args.self.lows))

pub loop-level-init : goal.loop-level-init
loop-level-init c = let a = c.args in counting_start (up_from 0 a.self.n) a.self.lows a.self.highs a.self.n _ c.args.self.some (up_from-length 0 a.self.n) (up_from-at 0 a.self.n 0 (omega arith)) c.args.self.few c.first_level-r.ensures

pub after_level-r-requires : goal.after_level-r-requires
after_level-r-requires c = counting_fits _ _ _ _ _ c.loop-level.invariant

pub loop-level-preserved : goal.loop-level-preserved
loop-level-preserved c = let a = c.args in counting_next _ _ _ _ _ _ c.loop-level.invariant (omega (arith, up_from-length 0 a.self.n)) c.after_level-r.ensures

pub returns : goal.returns
returns c = counting_end _ _ _ _ _ c.loop-level.invariant (omega (arith, up_from-length 0 c.args.self.n))
