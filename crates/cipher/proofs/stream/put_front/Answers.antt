use mathlib.Core.Path.{sym}
use native.Mathlib.Omega.{arith}
use lib.Seq.{length-take-le}
use Rattle.cipher.proofs.Block.{whole}
use borrow.Author.Rules.{rules}
use Rattle.cipher.proofs.stream.put_front.Goals as goal

pub slice_bounds-put_block-end-then-out-eq64 : goal.slice_bounds-put_block-end-then-out-eq64
slice_bounds-put_block-end-then-out-eq64 c = sym (length-take-le 64 c.args.«out».now (search rules))

pub put_block-requires : goal.put_block-requires
put_block-requires c = omega (arith, length-take-le 64 c.args.«out».now (search rules))

pub returns-then-out-eq64 : goal.returns-then-out-eq64
returns-then-out-eq64 c =
    let a = c.args in
    whole a.z a.«out».now _ (search rules) c.put_block.ensures
