use Prim.Native.Nat.{◌+◌, ◌/◌, ◌≤◌}
use mathlib.Core.Path.{◌≡◌, ap, ◌∙◌}
use lib.ListN.{take, drop, length-take}
use Rattle.filter.specs.Filter.{ones, threshold}
use Rattle.filter.proofs.Sums.{ones_le, threshold_is}
use native.Mathlib.Omega.{arith}
use borrow.Author.Tests.{eq-eqb, ne_eqb}
use Rattle.filter.specs.Instances.{tail_of}
use borrow.Author.Rules.{rules}
use Rattle.filter.proofs.tail.Goals.{After-count_ones-n}
use Rattle.filter.proofs.tail.Goals as goal

-- the count is that of at most 63 bits
few : (c : After-count_ones-n) →
    (c.count_ones-n.result ≡ ones (take 63 (drop 81 c.args.x.now))) × (c.count_ones-n.result ≤ 63)
few c =
    let t = take 63 (drop 81 c.args.x.now) in
    let e : c.count_ones-n.result ≡ ones t = c.count_ones-n.ensures ∙ ap ones c.last_part.ensures in
    (e, omega (arith, ones_le t, length-take 63 (drop 81 c.args.x.now)))

pub overflow_add-result : goal.overflow_add-result
overflow_add-result c = omega (arith, (few c).1)

pub overflow_cast-result : goal.overflow_cast-result
overflow_cast-result c = omega (arith, (few c).1)

pub returns-then-instance-eq5 : goal.returns-then-instance-eq5
unfolding tail_of
returns-then-instance-eq5 c =
    let x = c.args.x.now in
    let t = take 63 (drop 81 x) in
    let e : (c.count_ones-n.result + 32) / 64 ≡ threshold 32 t = rw (few c).0 (threshold_is t (omega (arith, length-take 63 (drop 81 x)))) in
    (rw (eq-eqb _ _ c.if-instance-eq5.true) e, omega (arith, (few c).1))

pub returns : goal.returns
unfolding tail_of
returns c = (rw (ne_eqb _ _ c.if-instance-eq5.false), search rules)
