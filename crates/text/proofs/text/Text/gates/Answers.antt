use Rattle.text.proofs.Netlists.{gates_turn, part_room}
use Rattle.text.proofs.text.Text.gates.Goals as goal

pub gate-requires : goal.gate-requires
gate-requires c = rw c.gate_at-gate.ensures (part_room _ _ _ _ _ _ c.loop-i.invariant (gates_turn _ _ _ _ c.loop-i-test.true) c.requires.room)
