use Rattle.register.proofs.Rounds.{all_put}
use native.Mathlib.Omega.{arith}
use Rattle.register.proofs.wires.Netlist.put_rounds.Goals as goal

pub put_gate-requires : goal.put_gate-requires
put_gate-requires c = omega (arith, c.gate_place.ensures)

pub put_gate-requires-2 : goal.put_gate-requires-2
put_gate-requires-2 c = omega (arith, c.gate_place-2.ensures)

pub returns : goal.returns
returns c =
    all_put _ _ _ _ _ _ _ _ _ c.gate_place.ensures c.gate_place-2.ensures c.put_gate.ensures
    c.put_gate-2.ensures c.plain_rounds.ensures c.output_rounds.ensures
