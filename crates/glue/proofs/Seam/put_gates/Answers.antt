use Prim.Native.Nat.{ℕ, ◌+◌, ◌-◌, ◌^◌, ◌<◌, ◌≤◌}
use mathlib.Core.Path.{◌≡◌, sym, ◌∙◌}
use native.Mathlib.Omega.{arith}
use lib.ListN.{length, get_or}
use Rattle.std.specs.Prelude.{Some}
use Rattle.answer.proofs.Over.{over_none}
use Rattle.netlist.specs.declared.gate.Gate.{Gate}
use Rattle.netlist.specs.Gates.{uses_of}
use Rattle.netlist.specs.Words.{gates_of, gate_place, gate_at}
use Rattle.netlist.specs.Check.{output_limit}
use Rattle.netlist.proofs.Gates.{UsedBits, used_bits, taken_known, not_unknown, same_gate}
use Rattle.glue.proofs.Parts.{words_more, small_gate}
use Rattle.glue.proofs.Seam.put_gates.Goals.{After-take_apart, After-used-used}
use Rattle.glue.proofs.Seam.put_gates.Goals as goal

bits_by : {g h : Gate} {r : ℕ} → r ≡ 2 ^ uses_of g - 1 → g ≡ h → UsedBits (uses_of h) r
bits_by {g} {h} e d = rw (e, d) (used_bits h)

less : (c : After-take_apart) → c.loop-g.g < gates_of c.args.second.now
less c = omega (arith, c.loop-g-test.true, c.requires.1)

known : (c : After-take_apart) → c.take_apart.result ≡ Some (gate_at c.args.second.now (gate_place c.loop-g.g))
known c = c.take_apart.ensures ∙ taken_known _ _ _ _ (c.requires.0.sound.whole _ (less c))

bits : (c : After-used-used) → c.take_apart.result ≡ Some (gate_at c.args.second.now (gate_place c.loop-g.g))
    → UsedBits (uses_of (gate_at c.args.second.now (gate_place c.loop-g.g))) c.used-used.result
bits c k = bits_by c.used-used.ensures (same_gate c.in-Some.is k)

pub loop-g-init : goal.loop-g-init
loop-g-init c = sym (over_none _)

pub returns-in_default : goal.returns-in_default
returns-in_default c = absurd (not_unknown (known (goal.at.returns-in_default c).After-take_apart) c.in_default.is)

-- what the three calls of wire require
small : (c : After-used-used) → c.loop-g.g < gates_of c.args.second.now →
    let at = gate_place c.loop-g.g in
    let b = c.args.second.now in
    (length c.args.self.outs.now ≤ output_limit)
    × (c.args.self.base + get_or b (at + 1) 0 < 4294967296)
    × (c.args.self.base + get_or b (at + 2) 0 < 4294967296)
    × (c.args.self.base + get_or b (at + 3) 0 < 4294967296)
small c l =
    let w = small_gate _ _ _ _ _ c.requires.0 l in
    (c.requires.0.inputs, w.0, w.1, w.2)

pub wire-a-requires : goal.wire-a-requires
wire-a-requires c =
    let k = goal.at.wire-a-requires c in
    omega (arith, bits k.After-used-used (known k.After-take_apart), small k.After-used-used (less k.After-take_apart))

pub wire-b-requires : goal.wire-b-requires
wire-b-requires c =
    let k = goal.at.wire-b-requires c in
    omega (arith, bits k.After-used-used (known k.After-take_apart), small k.After-used-used (less k.After-take_apart))

pub wire-c-requires : goal.wire-c-requires
wire-c-requires c =
    let k = goal.at.wire-c-requires c in
    omega (arith, bits k.After-used-used (known k.After-take_apart), small k.After-used-used (less k.After-take_apart))

pub loop-g-preserved : goal.loop-g-preserved
loop-g-preserved c =
    let a = c.args in
    let g = c.loop-g.g in
    let t = (goal.at.loop-g-preserved c).After-take_apart in
    let h : g < gates_of a.second.now = less t in
    let u = bits (goal.at.loop-g-preserved c).After-used-used (known t) in
    c.put_gate.ensures
    ∙ words_more a.second.now a.self.outs.now a.self.base a.out.now _ g c.requires.0 h (omega (arith, c.requires.0.space, h)) c.loop-g.invariant (rw (← u.0) c.wire-a.ensures) (rw (← u.1) c.wire-b.ensures) (rw (← u.2) c.wire-c.ensures)

pub returns : goal.returns
returns c =
    let e : c.loop-g.g ≡ c.args.gates = omega arith in
    rw e at c.loop-g.invariant
