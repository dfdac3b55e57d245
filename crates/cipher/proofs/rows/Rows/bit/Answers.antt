use mathlib.Core.Path.{ap, ◌∙◌}
use Rattle.filter.specs.Instances.{filter_of}
use Rattle.cipher.proofs.rows.Rows.bit.Goals as goal

pub returns : goal.returns
returns c =
    c.filter.ensures ∙ ap (filter_of c.args.self.now.instance) c.put_variables.ensures
