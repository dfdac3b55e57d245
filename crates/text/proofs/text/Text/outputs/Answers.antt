use Rattle.text.proofs.Netlists.{outs_turn, part_room}
use Rattle.text.proofs.text.Text.outputs.Goals as goal

pub output-requires : goal.output-requires
output-requires c = part_room _ _ _ _ _ _ c.loop-wire.invariant (outs_turn _ _ c.loop-wire-test.true) c.requires
