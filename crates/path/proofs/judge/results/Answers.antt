use mathlib.Core.Path.{◌∙◌, ap}
use native.Mathlib.Omega.{arith}
use Rattle.netlist.specs.declared.counts.Counts.{Counts}
use Rattle.instance.specs.declared.Sizes.{Sizes}
use Rattle.instance.proofs.Judged.{key_small}
use Rattle.path.proofs.Judging.{anded, results_are}
use Rattle.path.proofs.judge.results.Goals as goal

pub overflow_add-inputs : goal.overflow_add-inputs
overflow_add-inputs c =
    record { fits = omega (arith, key_small c.args.call.instance, ap Sizes.key c.sizes_of-sizes.ensures) }

pub overflow_add-needed-3 : goal.overflow_add-needed-3
overflow_add-needed-3 c =
    record { fits = omega (arith, key_small c.args.call.instance, ap Sizes.key c.sizes_of-sizes.ensures) }

pub returns : goal.returns
returns c =
    let e = c.counts_of-counts.ensures in
    λ a eg ew.
    anded c.and-2.ensures c.check_as-nine.ensures (anded c.and.ensures c.room-eight.ensures c.fit-last.ensures)
    ∙ results_are _ _ _ _ _ _ _ _ a _ _ (ap Sizes.key c.sizes_of-sizes.ensures) eg ew (ap Counts.gates e) (ap Counts.outputs e) (ap Counts.inputs e)
