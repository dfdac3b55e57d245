use mathlib.Core.Path.{sym, ap, ◌∙◌}
use native.Mathlib.Omega.{arith}
use lib.ListN.{length}
use Rattle.netlist.specs.Words.{header_words}
use Rattle.netlist.specs.declared.gate.Gate.TheVariants.{One}
use Rattle.netlist.specs.Put.{put_gates}
use Rattle.emit.proofs.Shapes.{alone, hot_none, hot_cells}
use Rattle.emit.proofs.nets.OneHot.put_gates.Goals as goal

pub put_gate-requires : goal.put_gate-requires
put_gate-requires c = let e = ap length (hot_none c.args.self.n c.if-n-eq0.true) in omega arith

pub returns-then-n-eq0 : goal.returns-then-n-eq0
returns-then-n-eq0 c =
    alone One _ _ _ header_words (hot_none c.args.self.n c.if-n-eq0.true) c.put_gate.ensures

pub put-requires : goal.put-requires
put-requires c = let e = ap length (hot_cells c.args.self.n c.if-n-eq0.false) in omega arith

pub returns : goal.returns
returns c =
    let a = c.args in c.put.ensures ∙ ap (put_gates a.out.now header_words) (sym (hot_cells a.self.n c.if-n-eq0.false))
