use native.Mathlib.Nat.{le_antisymm}
use mathlib.Core.Path.{◌∙◌}
use Rattle.answer.specs.Bits.{above_one}
use Rattle.answer.proofs.Search.{scan_start, scan_end}
use Rattle.answer.proofs.first_no_bit.Goals as goal

pub loop-i-init : goal.loop-i-init
loop-i-init c = scan_start (above_one c.args.s.now) _

pub returns : goal.returns
returns c =
    le_antisymm c.loop-i-test.false c.loop-i.auto.i-end ∙ scan_end (above_one c.args.s.now) _ _ c.loop-i.invariant c.loop-i-test.false
