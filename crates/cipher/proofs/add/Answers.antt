use mathlib.Core.Path.{◌≡◌, ◌∙◌}
use native.Mathlib.Omega.{arith}
use lib.ListN.{length}
use Rattle.cipher.proofs.Sums.{sums_none, sums_next, sums-all}
use borrow.Author.Rules.{rules}
use Rattle.cipher.proofs.add.Goals as goal

pub loop-i-init : goal.loop-i-init
loop-i-init c = sums_none c.args.«record».now c.args.out.now c.requires

pub loop-i-preserved : goal.loop-i-preserved
loop-i-preserved c =
    sums_next c.args.«record».now c.args.out.now c.requires c.loop-i.i c.loop-i.out (search rules) c.loop-i.invariant

pub returns : goal.returns
returns c =
    let e : c.loop-i.i ≡ length c.args.«record».now = omega arith in
    c.loop-i.invariant ∙ sums-all c.args.«record».now c.args.out.now c.requires _ e
