use Prim.Native.Nat.{◌+◌, ◌*◌}
use mathlib.Core.List.{◌++◌}
use lib.ListN.{replicate}
use Rattle.answer.proofs.Over.{tail_is}
use Rattle.filter.specs.Instances.{degrees_to, copies}
use Rattle.filter.proofs.Published.{before_pairs, before_triangles}
use Rattle.filter.proofs.Parts.{join}
use Rattle.filter.proofs.flip.Goals as goal

pub returns : goal.returns
returns c =
    let a = c.args in
    let x = a.x.now in
    join (replicate a.linear 1 ++ replicate a.pairs 2) (copies 8 (degrees_to a.k)) x (before_triangles a.linear a.pairs) (tail_is (a.linear + 2 * a.pairs) x)
    (join (replicate a.linear 1) (replicate a.pairs 2) x (before_pairs a.linear) (tail_is a.linear x) c.sum_equal-ones.ensures c.sum_equal-twos.ensures)
    c.triangles-triangular.ensures
