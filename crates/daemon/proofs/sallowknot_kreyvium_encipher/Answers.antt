use mathlib.Core.Path.{◌≡◌, ap, ◌∙◌}
use lib.ListN.{length}
use Rattle.daemon.specs.Daemon.{kreyvium_answer}
use Rattle.daemon.specs.Inner.{without_indices}
use Rattle.daemon.proofs.Numbers.{packed_due, kreyvium_small}
use Rattle.daemon.proofs.Counted.{kreyvium_counted, kreyvium_left}
use Rattle.daemon.proofs.sallowknot_kreyvium_encipher.Goals.{After-without_indices}
use Rattle.daemon.proofs.sallowknot_kreyvium_encipher.Goals as goal

-- the answer, its lists counted as this call takes them
counted : (c : After-without_indices)
    → let a = c.args in c.without_indices.result ≡ kreyvium_answer a.m a.key.now a.«record».now a.iv.now (length a.res.now)
counted c =
    c.without_indices.ensures
    ∙ ap without_indices c.encipher-r.ensures.answered
    ∙ kreyvium_counted _ _ _ _ _

pub returns : goal.returns
returns c =
    let e = counted (goal.at.returns c).After-without_indices in
    record {
      answered = packed_due c.packed.ensures e (kreyvium_small _ _ _ _ _);
      written = kreyvium_left _ _ _ _ _ c.encipher-r.ensures;
    }
