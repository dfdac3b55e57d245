use native.Mathlib.Omega.{arith}
use Rattle.register.proofs.Words.{kreyvium_room, kreyvium_put}
use Rattle.register.proofs.wires.Netlist.put.Goals as goal

pub put_rounds-requires : goal.put_rounds-requires
put_rounds-requires c =
    omega (arith, kreyvium_room _ _ _ c.requires)

pub put_outs-requires : goal.put_outs-requires
put_outs-requires c =
    omega (arith, kreyvium_room _ _ _ c.requires)

pub returns : goal.returns
returns c =
    kreyvium_put _ _ _ _ _ _ _ c.requires c.counts.ensures
    c.put_header.ensures c.put_rounds.ensures c.put_outs.ensures
