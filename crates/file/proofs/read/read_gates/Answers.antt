use Rattle.records.proofs.Judged.{quad_size, start_next, there_at, whole_quad_lem}
use Rattle.file.proofs.Put.{quad_put}
use Rattle.file.proofs.read.read_gates.Goals as goal

pub loop-g-preserved : goal.loop-g-preserved
loop-g-preserved c =
    let e = whole_quad_lem _ _ _ (there_at _ _ c.requires.1 c.loop-g-test.true c.loop-g.invariant.1) c.quad_at-q.ensures in
    (quad_put _ _ _ _ e c.loop-g.invariant.1 c.loop-g.invariant.0 c.put.ensures, start_next _ _ _ c.loop-g.invariant.1 (quad_size _ _ _ e))
