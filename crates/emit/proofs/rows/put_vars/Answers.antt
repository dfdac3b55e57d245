use Rattle.emit.proofs.RowsVariables.{going_start, going_room, going_step, going_end}
use Rattle.emit.proofs.rows.put_vars.Goals as goal

pub loop-j-init : goal.loop-j-init
loop-j-init c =
    let s = c.requires in
    going_start _ _ _ _ _ _ s.ws_len.0 s.ws_len.1 s.ws_in_bounds.0

pub put_not-more-requires : goal.put_not-more-requires
put_not-more-requires c =
    going_room _ _ _ _ _ _ _ _ _ _ c.loop-j.invariant

pub loop-j-preserved : goal.loop-j-preserved
loop-j-preserved c =
    going_step _ _ _ _ _ _ _ _ _ _ c.loop-j.invariant _ _ _ c.loop-j-test.true c.put_not-more.ensures.out_after c.put_not-more.ensures.value.0 c.pick_wire.ensures

pub returns : goal.returns
returns c =
    let e = going_end _ _ _ _ _ _ _ _ _ _ c.loop-j.invariant c.loop-j-test.false in record { at_is = e.index; wire_is = e.count; g_after = e.gates; xs_after = e.wires }
