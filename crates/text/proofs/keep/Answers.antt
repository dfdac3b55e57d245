use native.Mathlib.Omega.{arith}
use mathlib.Core.Path.{sym}
use Rattle.text.proofs.Cases.{keep_none, keep_room, keep_place, keep_all}
use Rattle.text.proofs.keep.Goals as goal

pub returns-in_err-room : goal.returns-in_err-room
returns-in_err-room c = keep_none _ _ _ c.room.ensures _ _ c.in_err-room.was (grind arith)

pub slice_bounds-copy_from_slice-end : goal.slice_bounds-copy_from_slice-end
slice_bounds-copy_from_slice-end c = keep_room _ _ _ c.room.ensures c.in_ok-room.was

pub slice_bounds-copy_from_slice-end-2 : goal.slice_bounds-copy_from_slice-end-2
slice_bounds-copy_from_slice-end-2 c = sym (keep_place _ _ _ c.room.ensures c.in_ok-room.was)

pub copy_from_slice-requires : goal.copy_from_slice-requires
copy_from_slice-requires c = keep_place _ _ _ c.room.ensures c.in_ok-room.was

pub returns : goal.returns
returns c = keep_all _ _ _ c.room.ensures c.in_ok-room.was _ c.copy_from_slice.ensures.after
