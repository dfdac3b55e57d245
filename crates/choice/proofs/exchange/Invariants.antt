use mathlib.Core.Path.{◌≡◌}
use lib.ListN.{length, drop}
use Rattle.choice.specs.Choice.{swaps}
use Rattle.choice.proofs.exchange.Given as goal

abbrev pub invariant-loop-i : goal.invariant-loop-i
invariant-loop-i l = (swaps l.i (drop l.i l.draws) l.wires ≡ swaps 0 l.draws l.initial.wires) × (length l.wires ≡ length l.initial.wires)
