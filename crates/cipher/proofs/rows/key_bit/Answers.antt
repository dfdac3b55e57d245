use native.Mathlib.Omega.{arith}
use Rattle.instance.specs.Keys.{Keyed, key_in}
use Rattle.instance.proofs.Keys.{key_bit_lem}
use Rattle.cipher.proofs.rows.key_bit.Goals as goal

pub bounds-key-p : goal.bounds-key-p
unfolding Keyed
bounds-key-p c = omega (arith, c.requires.0.size, c.requires.1)

pub returns : goal.returns
unfolding key_in
returns c =
    omega (arith, key_bit_lem c.args.instance c.args.key.now c.requires.0 c.args.p)
