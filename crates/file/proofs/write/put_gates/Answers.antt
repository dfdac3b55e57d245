use native.Mathlib.Omega.{arith}
use Rattle.file.specs.File.{gate_bytes}
use Rattle.file.proofs.Joined.{joined_most}
use Rattle.file.proofs.write.put_gates.Goals as goal

pub put_gate-at-requires : goal.put_gate-at-requires
put_gate-at-requires c =
    let t = c.loop-g-test.true in
    let m = joined_most c.args.gates c.loop-g.g (gate_bytes c.args.form c.args.net.now) t in
    (omega arith, omega arith, c.requires.kinds _ t, omega (arith, m))

pub overflow_add-at : goal.overflow_add-at
overflow_add-at c =
    let a = c.args in
    omega (arith, joined_most a.gates c.loop-g.g (gate_bytes a.form a.net.now) c.loop-g-test.true)
