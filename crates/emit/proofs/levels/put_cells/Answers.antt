use native.Mathlib.Omega.{arith}
use Rattle.emit.proofs.Climbing.{climbing_start, climbing_fits, climbing_next, climbing_end, climbing_whole, cells-length}
use Rattle.emit.proofs.levels.put_cells.Goals as goal

pub put_first-requires : goal.put_first-requires
put_first-requires c = let a = c.args in omega (arith, cells-length a.ws.now a.lows a.highs a.next.at a.next.wire (omega arith))

pub first_level-r-requires : goal.first_level-r-requires
first_level-r-requires c =
    let a = c.args in (omega arith, omega (arith, cells-length a.ws.now a.lows a.highs a.next.at a.next.wire (omega arith)))

pub loop-j-init : goal.loop-j-init
loop-j-init c =
    climbing_start c.args.ws.now c.args.out.now _ c.args.lows c.args.highs c.args.next.at c.args.next.wire _ c.requires.in_bounds.0 c.requires.in_bounds.1 c.requires.in_bounds.2 c.requires.in_bounds.3 c.first_level-r.ensures c.put_first.ensures c.requires.next_in_bounds

pub put_level-r-requires : goal.put_level-r-requires
put_level-r-requires c = climbing_fits _ _ _ _ _ _ _ _ c.loop-j.invariant c.loop-j-test.true

pub loop-j-preserved : goal.loop-j-preserved
loop-j-preserved c =
    climbing_next _ _ _ _ _ _ _ _ c.loop-j.invariant _ _ c.loop-j-test.true c.put_level-r.ensures.value c.put_level-r.ensures.out_after

pub returns : goal.returns
returns c =
    let a = c.args in record { out_after = climbing_whole _ _ _ _ _ _ _ _ c.loop-j.invariant a.out.now a.lows a.highs a.next.at c.loop-j-test.false c.first_level-r.ensures c.put_first.ensures; value = climbing_end _ _ _ _ _ _ _ _ c.loop-j.invariant c.loop-j-test.false }
