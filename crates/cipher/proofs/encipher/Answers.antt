use Prim.Native.Nat.{ℕ}
use mathlib.Core.Path.{◌≡◌}
use mathlib.Core.List.{List}
use Rattle.answer.specs.Answers.{Answer}
use Rattle.cipher.specs.Cipher.{Ciphered}
use borrow.Author.Rules.{rules}
use Rattle.cipher.proofs.encipher.Goals as goal

-- what Kreyvium does is what instance 6 does
as_six : (inst m : ℕ) (key rec idx wh out : List ℕ) (r : Answer) (out' : List ℕ) → inst ≡ 6
    → Ciphered 6 m key rec idx wh out r out' → Ciphered inst m key rec idx wh out r out'
as_six inst m key rec idx wh out r out' e x = rw e x

pub returns-then-instance-eq6 : goal.returns-then-instance-eq6
returns-then-instance-eq6 c = as_six _ _ _ _ _ _ _ _ _ (search rules) c.with_kreyvium.ensures
