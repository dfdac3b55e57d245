use mathlib.Core.Path.{ap, sym, ◌∙◌}
use mathlib.Core.List.{List}
use native.Mathlib.Omega.{arith}
use Prim.Native.Nat.{ℕ}
use lib.Seq.{sets}
use Rattle.answer.proofs.Over.{over-sets}
use Rattle.instance.specs.Keys.{key_in}
use Rattle.instance.proofs.Keys.{key_size}
use Rattle.path.proofs.write.join_inputs.Goals as goal

pub put_key-requires : goal.put_key-requires
put_key-requires c =
    (c.requires.0, omega (arith, c.requires.1, c.requires.2))

pub returns : goal.returns
returns c =
    let a = c.args in
    c.put_bytes.ensures
    ∙ ap (λ (x : List ℕ). sets x a.bits a.enciphered.now) c.put_key.ensures
    ∙ over-sets (key_in a.instance a.key.now) a.enciphered.now a.inputs.now a.bits (key_size a.instance a.key.now c.requires.0 ∙ sym c.requires.1) c.requires.2
