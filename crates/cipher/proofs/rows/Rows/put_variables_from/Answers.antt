use mathlib.Core.Path.{◌≡◌, ap, sym, ◌∙◌}
use mathlib.Core.List.{[]}
use native.Mathlib.Omega.{arith}
use lib.ListN.{length}
use lib.Seq.{take_all}
use Rattle.instance.specs.Keys.{key_in}
use Rattle.filter.specs.Filter.{var, tab}
use Rattle.cipher.proofs.Variables.{written-more}
use borrow.Author.Rules.{rules}
use Rattle.cipher.proofs.rows.Rows.put_variables_from.Goals as goal

pub loop-j-preserved : goal.loop-j-preserved
loop-j-preserved c =
    let r = c.args.self.now in
    written-more (var (key_in r.instance r.key.now) r.indices.now r.whitening.now) [] c.loop-j.x c.loop-j.j c.loop-j.j _ (search rules) c.variable.ensures c.loop-j.invariant

pub returns : goal.returns
returns c =
    let r = c.args.self.now in
    let e : c.loop-j.j ≡ length c.args.x.now = omega arith in
    sym (take_all c.loop-j.j c.loop-j.x (omega arith)) ∙ c.loop-j.invariant ∙ ap (tab (var (key_in r.instance r.key.now) r.indices.now r.whitening.now)) e
