use Prim.Native.Nat.{◌+◌, ◌*◌, ◌/◌}
use mathlib.Core.Path.{◌≡◌, refl, ap, ◌∙◌}
use native.Mathlib.Omega.{arith}
use lib.ListN.{length}
use Rattle.instance.specs.Keys.{key_in}
use Rattle.filter.specs.Filter.{var, tab}
use Rattle.cipher.proofs.Variables.{eight_more}
use Rattle.cipher.proofs.rows.Rows.put_variables.Goals as goal

pub loop-e-init : goal.loop-e-init
unfolding tab
loop-e-init c = refl

pub loop-e-preserved : goal.loop-e-preserved
loop-e-preserved c =
    let r = c.args.self.now in
    let n : 8 * (c.loop-e.e + 1) ≡ 8 * c.loop-e.e + 8 = omega arith in
    rw n (eight_more (var (key_in r.instance r.key.now) r.indices.now r.whitening.now) c.eight_variables.result c.loop-e.x _ (8 * c.loop-e.e) c.eight_variables.ensures c.loop-e.invariant c.put_eight_variables.ensures)

pub put_variables_from-requires : goal.put_variables_from-requires
put_variables_from-requires c =
    let n : length c.args.x.now / 8 ≡ c.loop-e.e = omega arith in
    (omega arith, rw n c.loop-e.invariant, omega arith)

pub returns : goal.returns
returns c =
    let r = c.args.self.now in
    c.put_variables_from.ensures ∙ ap (tab (var (key_in r.instance r.key.now) r.indices.now r.whitening.now)) c.loop-e.auto.x
