use Prim.Native.Nat.{ℕ, ◌*◌, ◌/◌}
use mathlib.Core.Path.{◌≡◌, ap, ◌∙◌}
use mathlib.Core.List.{List}
use native.Mathlib.Omega.{arith}
use lib.ListN.{length}
use Rattle.answer.specs.Fronts.{over}
use Rattle.filter.proofs.Tab.{tab_none}
use Rattle.cipher.proofs.Block.{tab-tops}
use Rattle.cipher.proofs.Spread.{block_bytes}
use Rattle.cipher.proofs.stream.put_eights.Goals as goal

pub loop-e-init : goal.loop-e-init
loop-e-init c = tab_none _ _

pub loop-e-preserved : goal.loop-e-preserved
loop-e-preserved c =
    let a = c.args in
    block_bytes a.z c.loop-e.e _ a.out.now c.loop-e.out _ (omega arith) (omega arith) c.loop-e.invariant (c.copy_from_slice.ensures.after ∙ c.spread.ensures)

pub returns : goal.returns
returns c =
    let e : length c.args.out.now / 8 ≡ c.loop-e.e = omega arith in
    (rw e (c.loop-e.invariant ∙ ap (λ (t : List ℕ). over t c.args.out.now) (tab-tops (8 * c.loop-e.e) c.args.z)), omega arith)
