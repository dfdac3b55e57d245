-- An answer whose lists are counted otherwise.
use Prim.Native.Nat.{ℕ}
use mathlib.Core.Path.{◌≡◌, refl, ap₂, ◌∙◌}
use mathlib.Core.Bool.{Bool, true, false}
use mathlib.Core.List.{List}
use lib.Dec.{ltb, eqb}
use Rattle.std.specs.Prelude.{Err, Ok}
use Rattle.answer.specs.declared.Reason.{Reason}
use Rattle.answer.specs.declared.Reason.TheVariants.{Bit, Index, Repeat, Whitening}
use Rattle.answer.specs.Answers.{Answer, ◌▹◌, refuse}
use Rattle.answer.specs.Bits.{bits_answer}
use Rattle.answer.specs.Choose.{choose}
use Rattle.instance.specs.Table.{key_bits, row_bits}
use Rattle.instance.specs.Judging.{rows_answer, white_answer}
use Rattle.answer.specs.Judges.{first_answer}
use Rattle.path.specs.Inner.{renamed_to}

module _ (from to : ℕ) where
  abbrev here : ℕ → ℕ
  here l = choose (eqb l from) to l

  row : (a b : Answer) → renamed_to from to (a ▹ b) ≡ renamed_to from to a ▹ renamed_to from to b
  unfolding renamed_to ◌▹◌
  row (Ok _) b = refl
  row (Err r) b = refl

  row_renamed : (a b : Answer) {c d : Answer} → renamed_to from to a ≡ c → renamed_to from to b ≡ d → renamed_to from to (a ▹ b) ≡ c ▹ d
  row_renamed a b e h = row a b ∙ ap₂ ◌▹◌ e h

  refuse_renamed : (n : Reason) (l p : ℕ) (b : Bool) → renamed_to from to (refuse n l p b) ≡ refuse n (here l) p b
  unfolding renamed_to refuse
  refuse_renamed n l p true = refl
  refuse_renamed n l p false = refl

  bits_renamed : (l : ℕ) (s : List ℕ) → renamed_to from to (bits_answer l s) ≡ bits_answer (here l) s
  unfolding bits_answer first_answer
  bits_renamed l s = refuse_renamed Bit l _ _

  rows_renamed : (l N n : ℕ) (s : List ℕ) → renamed_to from to (rows_answer l N n s) ≡ rows_answer (here l) N n s
  unfolding rows_answer first_answer
  rows_renamed l N n s = row_renamed _ _ (refuse_renamed Index l _ _) (refuse_renamed Repeat l _ _)

  unless_renamed : (b : Bool) (x : Answer) {y : Answer} → renamed_to from to x ≡ y → renamed_to from to (choose b (Ok tt) x) ≡ choose b (Ok tt) y
  unfolding renamed_to
  unless_renamed true x e = refl
  unless_renamed false x e = e

  white_renamed : (l inst : ℕ) (s : List ℕ) → renamed_to from to (white_answer l inst s) ≡ white_answer (here l) inst s
  unfolding white_answer first_answer
  white_renamed l inst s = unless_renamed (ltb 2 inst) _ (refuse_renamed Whitening l _ _)

  -- 4 on whitening or IV, list k; 5 and 6 on the indices, list l; 7
  pub wiring_renamed : (l k inst : ℕ) (idx wh : List ℕ)
      → renamed_to from to (bits_answer k wh ▹ (rows_answer l (key_bits inst) (row_bits inst) idx ▹ white_answer k inst wh))
      ≡ bits_answer (here k) wh ▹ (rows_answer (here l) (key_bits inst) (row_bits inst) idx ▹ white_answer (here k) inst wh)
  wiring_renamed l k inst idx wh =
      row_renamed _ _ (bits_renamed k wh) (row_renamed _ _ (rows_renamed l _ _ idx) (white_renamed k inst wh))

  pub renamed_done : (a : Answer) → renamed_to from to a ≡ Ok tt → a ≡ Ok tt
  unfolding renamed_to
  renamed_done (Ok _) e = refl
  renamed_done (Err r) e = cc
