use mathlib.Core.Path.{◌∙◌}
use Rattle.choice.proofs.Swaps.{row_right}
use Rattle.choice.proofs.Judged.put_in.Goals as goal

pub returns : goal.returns
returns g c =
    c.copy.ensures ∙ row_right _ _ _ _ _ _ c.args.self.fit c.fill.ensures c.exchange.ensures
