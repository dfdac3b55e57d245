use native.Mathlib.Omega.{arith}
use Rattle.emit.proofs.Accepted.{wiring_of, kreyvium_count, rows_count}
use Rattle.emit.proofs.Lent.gates.Goals as goal

pub returns-then-instance-eq6 : goal.returns-then-instance-eq6
returns-then-instance-eq6 c =
    (kreyvium_count _ _ _ _ c.if-instance-eq6.true, omega (arith, c.args.self.wired.few))

pub invariant_of-net : goal.invariant_of-net
invariant_of-net c = record { wiring = wiring_of _ _ _ _ c.args.self.wired c.if-instance-eq6.false }

pub returns : goal.returns
returns c =
    (rows_count _ _ _ _ c.if-instance-eq6.false c.gates.ensures.0, c.gates.ensures.1)
