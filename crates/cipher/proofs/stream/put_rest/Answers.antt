use Prim.Native.Nat.{ℕ}
use mathlib.Core.Path.{◌≡◌, ap, sym, ◌∙◌}
use mathlib.Core.List.{List}
use native.Mathlib.Omega.{arith}
use lib.ListN.{length}
use Rattle.answer.specs.Fronts.{over}
use Rattle.filter.specs.Filter.{tab}
use Rattle.filter.proofs.Tab.{tab-more, tab_whole}
use Rattle.cipher.proofs.Block.{block_bit, tab-tops, block_bit_lem}
use borrow.Author.Rules.{rules}
use Rattle.cipher.proofs.stream.put_rest.Goals as goal

pub loop-i-init : goal.loop-i-init
loop-i-init c =
    let a = c.args in
    c.requires.2 ∙ ap (λ (t : List ℕ). over t a.out.now) (sym (tab-tops a.from a.z))

pub loop-i-preserved : goal.loop-i-preserved
loop-i-preserved c =
    rw c.loop-i.invariant (tab-more (block_bit c.args.z) c.args.out.now c.loop-i.i _ (search rules) (block_bit_lem c.args.z c.loop-i.i))

pub returns : goal.returns
returns c =
    let e : c.loop-i.i ≡ length c.args.out.now = omega arith in
    c.loop-i.invariant ∙ tab_whole (block_bit c.args.z) c.args.out.now _ e ∙ ap (tab (block_bit c.args.z)) e ∙ tab-tops _ _
