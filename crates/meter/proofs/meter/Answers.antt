use Rattle.meter.proofs.Promise.{roomy, part_long, clears, metered, unmetered}
use Rattle.meter.proofs.meter.Goals as goal

pub slice_bounds-put_levels-end : goal.slice_bounds-put_levels-end
slice_bounds-put_levels-end c = roomy _ c.in-Ok.ensures

pub slice_bounds-put_levels-end-in-Ok : goal.slice_bounds-put_levels-end-in-Ok
slice_bounds-put_levels-end-in-Ok c = part_long _ c.in-Ok.ensures

pub put_levels-multiplications-requires : goal.put_levels-multiplications-requires
put_levels-multiplications-requires c = clears _ c.in-Ok.ensures

pub returns-in-Ok : goal.returns-in-Ok
returns-in-Ok c = metered _ c.in-Ok.ensures c.put_levels-multiplications.ensures.multiply c.put_levels-multiplications.ensures.counts

pub returns-in-Err : goal.returns-in-Err
returns-in-Err c = unmetered _ c.in-Err.ensures
