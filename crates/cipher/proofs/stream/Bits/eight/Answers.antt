use Prim.Native.Nat.{ℕ, ◌+◌, ◌*◌, ◌/◌, ◌%◌}
use mathlib.Core.Path.{ap₂, ◌∙◌}
use Rattle.cipher.proofs.Halves.{part_gathered}
use Rattle.cipher.proofs.stream.Bits.eight.Goals as goal

pub returns : goal.returns
returns c =
    ap₂ (λ (x y : ℕ). (x + y * 16) * 2113665 / 2097152 % 256) c.four.ensures.0 c.four-2.ensures.0
    ∙ part_gathered c.args.self.now.list.now c.args.at c.requires c.args.self.now.small
