use mathlib.Core.Path.{sym, ap, ◌∙◌}
use native.Mathlib.Omega.{arith}
use lib.ListN.{length}
use Rattle.netlist.specs.Words.{header_words}
use Rattle.netlist.specs.declared.gate.Gate.TheVariants.{Zero}
use Rattle.netlist.specs.Put.{put_gates}
use Rattle.emit.proofs.Shapes.{alone, threshold_zero, threshold-cells}
use Rattle.emit.proofs.nets.Threshold.put_gates.Goals as goal

pub put_gate-requires : goal.put_gate-requires
put_gate-requires c = let e = ap length (threshold_zero c.args.self.d c.args.self.n c.if-n-d.true (omega arith)) in omega arith

pub returns-then-n-d : goal.returns-then-n-d
returns-then-n-d c =
    alone Zero _ _ _ header_words (threshold_zero c.args.self.d c.args.self.n c.if-n-d.true (omega arith)) c.put_gate.ensures

pub put-requires : goal.put-requires
put-requires c = let e = ap length (threshold-cells c.args.self.d c.args.self.n (omega arith) c.if-n-d.false) in omega arith

pub returns : goal.returns
returns c =
    let a = c.args in
    c.put.ensures ∙ ap (put_gates a.out.now header_words) (sym (threshold-cells a.self.d a.self.n (omega arith) c.if-n-d.false))
