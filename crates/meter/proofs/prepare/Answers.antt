use native.Mathlib.Omega.{arith}
use Rattle.meter.proofs.Promise.{unmeasured, roomless, prepared}
use Rattle.meter.proofs.prepare.Goals as goal

pub returns-in_err-measured : goal.returns-in_err-measured
returns-in_err-measured c = unmeasured _ c.in_err-measured.ensures (grind arith)

pub returns-in_err-room : goal.returns-in_err-room
returns-in_err-room c = roomless c.in_ok-measured.ensures _ c.room.ensures c.in_err-room.was (grind arith)

pub returns : goal.returns
returns c = prepared c.in_ok-measured.ensures _ c.room.ensures c.in_ok-room.was
