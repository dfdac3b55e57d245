use Prim.Native.Nat.{◌-◌}
use native.Mathlib.Omega.{arith}
use Rattle.kreyvium.proofs.Windows.{seen}
use Rattle.kreyvium.proofs.Words.tap.Goals as goal

pub returns : goal.returns
returns c =
    let n = c.args.n in
    λ len i p q h. seen _ (n - 64) (n - 1) len i _ c.window.ensures (omega arith) (omega arith) q h
