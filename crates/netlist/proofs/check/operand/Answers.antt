use Prim.Native.Nat.{ℕ, zero, suc, ◌+◌, ◌-◌, ◌*◌, ◌<◌, ◌≤◌}
use mathlib.Core.Bool.{true, false}
use mathlib.Core.Path.{◌≡◌, sym, ◌∙◌}
use native.Mathlib.Omega.{arith}
use lib.Dec.{ltb, leb}
use borrow.Author.Tests.{lt-ltb, le-ltb, le-leb, lt-leb}
use Rattle.answer.specs.declared.Reason.TheVariants.{Netlist}
use Rattle.answer.specs.Choose.{choose}
use Rattle.answer.proofs.Rows.{refuse_yes, refuse_not}
use Rattle.netlist.specs.Check.{operand_answer}
use Rattle.netlist.proofs.Gates.{times_most}
use Rattle.netlist.proofs.check.operand.Goals as goal

-- the limit is the wire, or 1
limit_most : (u w m : ℕ) → u ≤ 1 → w ≤ m → 1 ≤ m → u * w + (1 - u) ≤ m
limit_most zero w m h l k = omega arith
limit_most (suc zero) w m h l k = omega arith
limit_most (suc (suc u)) w m h l k = absurd (omega arith)

high : (u w x : ℕ) → u ≤ 1 → u * w + (1 - u) ≤ x → choose (ltb 0 u) (leb w x) (ltb 0 x) ≡ true
high zero w x h l = lt-ltb 0 x (omega arith)
high (suc zero) w x h l = le-leb w x (omega arith)
high (suc (suc u)) w x h l = absurd (omega arith)

low : (u w x : ℕ) → u ≤ 1 → x < u * w + (1 - u) → choose (ltb 0 u) (leb w x) (ltb 0 x) ≡ false
low zero w x h l = le-ltb 0 x (omega arith)
low (suc zero) w x h l = lt-leb w x (omega arith)
low (suc (suc u)) w x h l = absurd (omega arith)

pub overflow_mul-limit : goal.overflow_mul-limit
overflow_mul-limit c = omega (arith, times_most c.args.used c.args.wire 4294967295 c.requires (omega arith))

pub overflow_add-limit : goal.overflow_add-limit
overflow_add-limit c = omega (arith, limit_most c.args.used c.args.wire 4294967295 c.requires (omega arith) (omega arith))

pub returns-then-limit-x : goal.returns-then-limit-x
unfolding operand_answer
returns-then-limit-x c =
    c.refused.ensures ∙ refuse_yes Netlist _ _ (high c.args.used c.args.wire c.args.x c.requires c.if-limit-x.true)

pub returns : goal.returns
unfolding operand_answer
returns c = sym (refuse_not Netlist _ _ (low c.args.used c.args.wire c.args.x c.requires c.if-limit-x.false))
