use Rattle.std.specs.Prelude.{Some}
use Rattle.netlist.specs.Words.{gate_place, gate_at}
use Rattle.netlist.proofs.Gates.{not_unknown, same_gate}
use mathlib.Core.Path.{◌≡◌, ◌∙◌}
use native.Mathlib.Omega.{arith}
use Rattle.evaluate.proofs.Walks.{gates_none, gates_turn}
use Rattle.evaluate.proofs.put_gates.Goals.{After-take_apart}
use Rattle.evaluate.proofs.put_gates.Goals as goal

-- the gate at the loop's place is of a known kind
known : (c : After-take_apart) → c.take_apart.result ≡ Some (gate_at c.args.net.now (gate_place c.loop-g.g))
known c = c.take_apart.ensures ∙ c.requires.known _ c.loop-g-test.true

pub loop-g-init : goal.loop-g-init
loop-g-init c = gates_none _ _ _ (omega arith)

pub returns-in_default : goal.returns-in_default
returns-in_default c = absurd (not_unknown (known (goal.at.returns-in_default c).After-take_apart) c.in_default.is)

pub loop-g-preserved : goal.loop-g-preserved
loop-g-preserved c =
    gates_turn _ _ _ _ _ c.requires c.loop-g-test.true c.loop-g.invariant (same_gate c.in-Some.is (known (goal.at.loop-g-preserved c).After-take_apart)) c.value-v.ensures

pub returns : goal.returns
returns c =
    let e : c.loop-g.g ≡ c.args.gates = omega arith in
    rw e at c.loop-g.invariant
