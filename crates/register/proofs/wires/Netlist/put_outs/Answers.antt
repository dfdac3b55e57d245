use mathlib.Core.Path.{sym, ◌∙◌}
use native.Mathlib.Omega.{arith}
use Rattle.register.proofs.Words.{outs_start, outs_turn, outs_end}
use Rattle.register.proofs.wires.Netlist.put_outs.Goals as goal

pub loop-k-preserved : goal.loop-k-preserved
loop-k-preserved c = outs_turn _ _ _ _ c.gate_place-start.ensures (omega arith) ∙ c.loop-k.invariant

pub returns : goal.returns
returns c = sym (outs_end _ _ _ (omega arith)) ∙ c.loop-k.invariant ∙ outs_start _ _
