use Prim.Native.Nat.{◌%◌}
use native.Mathlib.Omega.{arith}
use lib.ListN.{get_or}
use Rattle.filter.proofs.Sums.{and_bit, bit_times, product-start, product-step, product_end}
use borrow.Author.Rules.{rules}
use Rattle.filter.proofs.product.Goals as goal

pub loop-b-init : goal.loop-b-init
loop-b-init c = record { bit = search rules; same = product-start _ }

pub loop-b-preserved : goal.loop-b-preserved
loop-b-preserved c =
    let x = c.args.x.now in
    let v = c.loop-b.invariant in
    rw (and_bit c.loop-b.p (get_or x c.loop-b.b-index 0) v.bit)
    record {
      bit = bit_times c.loop-b.p (get_or x c.loop-b.b-index 0 % 2) v.bit (omega arith);
      same = product-step x c.loop-b.p c.loop-b.b-index v.bit (search rules) v.same;
    }

pub returns : goal.returns
returns c = product_end _ _ _ c.loop-b.invariant.bit (omega arith) c.loop-b.invariant.same
