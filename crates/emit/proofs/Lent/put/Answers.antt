use mathlib.Core.Path.{refl, sym, ap, ◌∙◌}
use Rattle.answer.specs.Fronts.{over}
use Rattle.answer.proofs.Over.{made}
use Rattle.netlist.specs.Net.{Net}
use Rattle.netlist.specs.Words.{words}
use Rattle.emit.proofs.Accepted.{net_rows, wiring_of, kreyvium_emitted}
use Rattle.emit.proofs.Lent.put.Goals as goal

pub returns-then-instance-eq6 : goal.returns-then-instance-eq6
returns-then-instance-eq6 c =
    kreyvium_emitted _ _ _ _ _ _ _ c.args.self.wired c.if-instance-eq6.true c.requires c.emit_kreyvium.ensures

pub invariant_of-net : goal.invariant_of-net
invariant_of-net c = record { wiring = wiring_of _ _ _ _ c.args.self.wired c.if-instance-eq6.false }

pub put-requires : goal.put-requires
put-requires c = rw (net_rows _ _ _ _ c.if-instance-eq6.false) at c.requires

pub returns : goal.returns
returns c =
    let n = c.if-instance-eq6.false in
    let a = c.args in
    record {
      answered = refl;
      written =
          c.put.ensures
          ∙ ap (λ (n : Net). over (words n) a.res.now) (sym (net_rows a.self.instance a.self.m a.self.indices.now a.self.whitening.now n))
          ∙ made _ _ refl;
    }
