use Prim.Native.Nat.{ℕ}
use mathlib.Core.Path.{ap}
use mathlib.Core.List.{List}
use Rattle.answer.specs.Fronts.{over}
use Rattle.filter.proofs.Tab.{tab_none, tab-more}
use Rattle.port.proofs.Layouts.{high_bit, high_bit_lem, high_first_lem}
use borrow.Author.Rules.{rules}
use Rattle.port.proofs.put_number.Goals as goal

pub loop-i-init : goal.loop-i-init
loop-i-init c = tab_none _ _

pub loop-i-preserved : goal.loop-i-preserved
loop-i-preserved c =
    let a = c.args in
    rw c.loop-i.invariant (tab-more (high_bit a.n a.x) a.out.now c.loop-i.i _ (search rules) (high_bit_lem a.n a.x c.loop-i.i))

pub returns : goal.returns
returns c = rw c.loop-i.invariant (ap (λ (t : List ℕ). over t c.args.out.now) (high_first_lem c.args.n c.args.x _ (search rules)))
