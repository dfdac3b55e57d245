use mathlib.Core.Path.{refl}
use native.Mathlib.Omega.{arith}
use Rattle.frames.proofs.Spreading.{eight_gathered}
use Rattle.frames.proofs.bytes.eight.Goals as goal

pub returns : goal.returns
returns c =
    let h = rw c.unwrap.ensures at c.try_into.ensures in
    (eight_gathered c.args.s.now c.args.at c.requires.1 h.1.same c.from_le_bytes-y.ensures refl, omega arith)
