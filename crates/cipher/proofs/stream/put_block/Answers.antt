use Prim.Native.Nat.{ℕ}
use mathlib.Core.Path.{ap, ◌∙◌}
use Rattle.kreyvium.specs.Words.{tops}
use Rattle.cipher.proofs.Spread.{over_twice}
use borrow.Author.Rules.{rules}
use Rattle.cipher.proofs.stream.put_block.Goals as goal

pub put_rest-requires : goal.put_rest-requires
put_rest-requires c = (search rules, search rules, over_twice _ _ _ c.put_eights-i.ensures.0)

pub returns : goal.returns
returns c =
    c.put_rest.ensures ∙ ap (λ (n : ℕ). tops n c.args.z) (search rules)
