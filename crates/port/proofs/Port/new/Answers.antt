use native.Mathlib.Omega.{arith}
use Rattle.port.specs.Layout.{port_made}
use Rattle.port.proofs.Layouts.{large_by, next}
use Rattle.port.proofs.Port.new.Goals as goal

pub returns-in_err-room : goal.returns-in_err-room
unfolding port_made
returns-in_err-room c = large_by _ _ _ _ (grind arith) c.room.ensures c.in_err-room.was

pub returns-in_err-room-2 : goal.returns-in_err-room-2
unfolding port_made
returns-in_err-room-2 c =
    next _ _ _ _ c.room.ensures c.in_ok-room.was (large_by _ _ _ _ (grind arith) c.room-2.ensures c.in_err-room-2.was)

pub returns-in_err-room-3 : goal.returns-in_err-room-3
unfolding port_made
returns-in_err-room-3 c =
    next _ _ _ _ c.room.ensures c.in_ok-room.was
    (next _ _ _ _ c.room-2.ensures c.in_ok-room-2.was
    (large_by _ _ _ _ (grind arith) c.room-3.ensures c.in_err-room-3.was))

pub returns-in_err-room-4 : goal.returns-in_err-room-4
unfolding port_made
returns-in_err-room-4 c =
    next _ _ _ _ c.room.ensures c.in_ok-room.was
    (next _ _ _ _ c.room-2.ensures c.in_ok-room-2.was
    (next _ _ _ _ c.room-3.ensures c.in_ok-room-3.was
    (large_by _ _ _ _ (grind arith) c.room-4.ensures c.in_err-room-4.was)))

pub returns-in_err-room-5 : goal.returns-in_err-room-5
unfolding port_made
returns-in_err-room-5 c =
    next _ _ _ _ c.room.ensures c.in_ok-room.was
    (next _ _ _ _ c.room-2.ensures c.in_ok-room-2.was
    (next _ _ _ _ c.room-3.ensures c.in_ok-room-3.was
    (next _ _ _ _ c.room-4.ensures c.in_ok-room-4.was
    (large_by _ _ _ _ (grind arith) c.room-5.ensures c.in_err-room-5.was))))
