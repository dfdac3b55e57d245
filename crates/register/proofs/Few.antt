-- A few gates stored one after the other.
use mathlib.Core.Path.{◌≡◌, sym, ap, ◌∙◌}
use mathlib.Core.List.{List, [], ◌∷◌, append_assoc}
use Prim.Native.Nat.{ℕ, ◌+◌, ◌≤◌}
use native.Mathlib.Omega.{arith}
use borrow.Rule.Slice.PartMut.{put_mid}
use lib.ListN.{length, take, drop}
use lib.Seq.{sets, sets-eq, drop-drop}
use Rattle.netlist.specs.declared.gate.Gate.{Gate}
use Rattle.netlist.specs.Gates.{gate_words}
use Rattle.netlist.specs.Put.{put_gates}
use Rattle.netlist.proofs.Puts.{put_one, more, next}

pub two : (out o₁ o₂ : List ℕ) (i j : ℕ) (g₁ g₂ : Gate) → o₁ ≡ sets out i (gate_words g₁) → o₂ ≡ sets o₁ j (gate_words g₂) → j ≡ i + 4 → o₂ ≡ put_gates out i (g₁ ∷ g₂ ∷ [])
two out o₁ o₂ i j g₁ g₂ e₁ e₂ h = next out o₁ o₂ i j (g₁ ∷ []) g₂ (e₁ ∙ sym (put_one g₁ out i)) e₂ (omega arith)

module _ (out o₁ o₂ o₃ : List ℕ) (i : ℕ) (g₁ g₂ g₃ : Gate)
    (e₁ : o₁ ≡ sets out i (gate_words g₁)) (e₂ : o₂ ≡ sets o₁ (i + 4) (gate_words g₂)) (e₃ : o₃ ≡ sets o₂ (i + 8) (gate_words g₃)) where
  pub three : o₃ ≡ put_gates out i (g₁ ∷ g₂ ∷ g₃ ∷ [])
  three = next out o₂ o₃ i (i + 8) (g₁ ∷ g₂ ∷ []) g₃ (two out o₁ o₂ i (i + 4) g₁ g₂ e₁ e₂ (omega arith)) e₃ (omega arith)

  pub four : (o₄ : List ℕ) (g₄ : Gate) → o₄ ≡ sets o₃ (i + 12) (gate_words g₄) → o₄ ≡ put_gates out i (g₁ ∷ g₂ ∷ g₃ ∷ g₄ ∷ [])
  four o₄ g₄ e₄ = next out o₃ o₄ i (i + 12) (g₁ ∷ g₂ ∷ g₃ ∷ []) g₄ three e₄ (omega arith)

-- three gates, one, three and three
pub tail_put : (out o₁ o₂ o₃ o₄ : List ℕ) (i : ℕ) (a b c d e f g x y z : Gate)
    → o₁ ≡ put_gates out i (a ∷ b ∷ c ∷ []) → o₂ ≡ sets o₁ (i + 12) (gate_words g)
    → o₃ ≡ put_gates o₂ (i + 16) (d ∷ e ∷ f ∷ []) → o₄ ≡ put_gates o₃ (i + 28) (x ∷ y ∷ z ∷ [])
    → o₄ ≡ put_gates out i (a ∷ b ∷ c ∷ g ∷ d ∷ e ∷ f ∷ x ∷ y ∷ z ∷ [])
tail_put out o₁ o₂ o₃ o₄ i a b c d e f g x y z e₁ e₂ e₃ e₄ =
    more out o₃ o₄ i (i + 28) (a ∷ b ∷ c ∷ g ∷ d ∷ e ∷ f ∷ []) (x ∷ y ∷ z ∷ [])
    (more out o₂ o₃ i (i + 16) (a ∷ b ∷ c ∷ g ∷ []) (d ∷ e ∷ f ∷ [])
    (next out o₁ o₂ i (i + 12) (a ∷ b ∷ c ∷ []) g e₁ e₂ (omega arith)) e₃ (omega arith)) e₄ (omega arith)

-- words copied over a part of a slice
pub part_put : (a k : ℕ) (xs ys vs : List ℕ) → ys ≡ vs → k ≡ length vs → a + k ≤ length xs → put_mid a k xs ys ≡ sets xs a vs
part_put a k xs ys vs e h r =
    let d : drop k (drop a xs) ≡ drop (a + length vs) xs = drop-drop k a xs ∙ ap (λ (n : ℕ). drop (a + n) xs) h in
    rw (e, d) (sym (sets-eq vs xs a (omega arith) ∙ append_assoc (take a xs) vs _))
