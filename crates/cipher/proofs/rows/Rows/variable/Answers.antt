use native.Mathlib.Omega.{arith}
use Rattle.instance.specs.Keys.{key_in}
use Rattle.instance.proofs.Judged.{key_small}
use Rattle.cipher.proofs.Variables.{low_bit}
use Rattle.cipher.proofs.rows.Rows.variable.Goals as goal

pub overflow_cast-p : goal.overflow_cast-p
overflow_cast-p c =
    let r = c.args.self.now in
    omega (arith, key_small r.instance, r.below c.args.j)

pub returns : goal.returns
returns c =
    let r = c.args.self.now in
    low_bit (key_in r.instance r.key.now) r.indices.now r.whitening.now c.args.j c.key_bit.result c.key_bit.ensures
