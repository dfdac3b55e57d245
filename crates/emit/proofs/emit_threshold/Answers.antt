use mathlib.Core.Path.{sym, ◌∙◌}
use Rattle.cells.specs.Cells.{threshold_net}
use Rattle.emit.specs.Emit.{no_threshold, threshold_answer}
use Rattle.emit.proofs.Shapes.{no_shape, shape_good}
use Rattle.emit.proofs.emit_threshold.Goals as goal

pub returns-then-no_threshold : goal.returns-then-no_threshold
unfolding threshold_answer
returns-then-no_threshold c =
    let a = c.args in
    no_shape (no_threshold a.d a.n) (threshold_net a.d a.n) a.res.now _ (sym c.no_threshold.ensures ∙ c.if-no_threshold.true) c.refused.ensures

pub invariant_of-net : goal.invariant_of-net
invariant_of-net c = let g = shape_good _ _ (sym c.no_threshold.ensures ∙ c.if-no_threshold.false) in record { few = g.0; some = g.1; most = g.2 }
