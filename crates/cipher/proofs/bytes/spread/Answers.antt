use Prim.Native.Nat.{◌*◌, ◌/◌}
use native.Mathlib.Omega.{arith}
use lib.Bits.{and_le_r}
use Rattle.cipher.proofs.Spread.{eight_bytes, spread_right}
use borrow.Author.Rules.{rules}
use Rattle.cipher.proofs.bytes.spread.Goals as goal

pub overflow_add-bytes : goal.overflow_add-bytes
overflow_add-bytes c = omega (arith, and_le_r (c.from-b.result * 18049651735527937 / 128) 282578800148737)

pub returns : goal.returns
returns c =
    rw (← c.from-b.ensures) (eight_bytes _ _ c.to_le_bytes.ensures (λ k h. spread_right c.from-b.result k (search rules) h))
