use mathlib.Core.Path.{refl, sym, ap, ◌∙◌}
use Prim.Native.Nat.{ℕ}
use mathlib.Core.List.{List}
use lib.Seq.{take_all}
use Rattle.answer.specs.Fronts.{over}
use native.Mathlib.Omega.{arith}
use Rattle.answer.proofs.Over.{over_none, over-take}
use borrow.Author.Rules.{rules}
use Rattle.evaluate.proofs.put_inputs.Goals as goal

pub loop-i-init : goal.loop-i-init
loop-i-init c = (sym (over_none _), refl)

pub loop-i-preserved : goal.loop-i-preserved
loop-i-preserved c =
    let a = c.args in
    (rw c.loop-i.invariant.0 (over-take a.inputs.now a.values.now c.loop-i.i (omega arith) (omega arith)), search rules)

pub returns : goal.returns
returns c =
    c.loop-i.invariant.0 ∙ ap (λ (t : List ℕ). over t c.args.values.now) (take_all c.loop-i.i c.args.inputs.now c.loop-i-test.false)
