use Rattle.std.proofs.Common.{rules}
use Rattle.register.proofs.Places.{fives, late_wire}
use Rattle.register.proofs.wires.Round.late_five.Goals as goal

pub returns : goal.returns
returns c =
    let x = c.args.self in
    let y = c.places.ensures in
    let k = c.requires in
    fives x.net.iv.now x.net.m x.net.iv_whole _ x.n _ _ y.value
    (late_wire _ _ _ _ _ _ _ k x.n_small y.p_read c.entering.ensures.0 (search rules))
    (late_wire _ _ _ _ _ _ _ k x.n_small y.q_read c.entering.ensures.0 (search rules))
    (late_wire _ _ _ _ _ _ _ k x.n_small y.r_read c.entering.ensures.0 (search rules))
    (late_wire _ _ _ _ _ _ _ k x.n_small y.s_read c.entering.ensures.0 (search rules))
    (late_wire _ _ _ _ _ _ _ k x.n_small y.t_read c.entering.ensures.0 (search rules))
