use Prim.Native.Nat.{◌+◌}
use mathlib.Core.Path.{◌≡◌, ◌∙◌}
use native.Mathlib.Omega.{arith}
use Rattle.cipher.specs.Inner.{apart}
use Rattle.cipher.proofs.stream.Bits.four.Goals as goal

pub returns : goal.returns
unfolding apart
returns c =
    let bit = c.args.self.now.small in
    let at = c.args.at in
    let e : c.from.result ≡ apart c.args.self.now.list.now at = c.from.ensures ∙ c.from_le_bytes.ensures in
    (e, omega (arith, e, bit at, bit (at + 1), bit (at + 2), bit (at + 3)))
