-- Parts stored: one for another that is equal, and two with a gate over both.
use Prim.Native.Nat.{ℕ, ◌+◌, ◌*◌}
use mathlib.Core.Path.{◌≡◌, ap, ap₂, ◌∙◌}
use mathlib.Core.List.{List, [], ◌∷◌, ◌++◌}
use lib.ListN.{length}
use lib.Seq.{sets}
use Rattle.netlist.specs.declared.gate.Gate.{Gate}
use Rattle.netlist.specs.Gates.{gate_words}
use Rattle.netlist.specs.Part.{Part, past, join}
use Rattle.netlist.specs.Put.{put_gates, Wrote}
use Rattle.netlist.proofs.Puts as puts

pub wrote_same : {p q : Part} (out o : List ℕ) (at r : ℕ) → p ≡ q → Wrote out at p o r → Wrote out at q o r
wrote_same out o at r e w = record { gates = w.gates ∙ ap (λ (z : Part). put_gates out at z.gates) e; wire = w.wire ∙ ap (λ (z : Part). z.out) e }

pub wrote_join : (g : ℕ → ℕ → Gate) (next : ℕ) (p q : Part) (out o₁ o₂ o₃ : List ℕ) (at i e a b r : ℕ) → Wrote out at p o₁ a → Wrote o₁ i q o₂ b
    → o₃ ≡ sets o₂ e (gate_words (g a b)) → i ≡ at + 4 * length p.gates → e ≡ i + 4 * length q.gates → r ≡ next + length p.gates + length q.gates
    → Wrote out at (join g next p q) o₃ r
unfolding join past
wrote_join g next p q out o₁ o₂ o₃ at i e a b r wp wq h ei ee er =
    let x = puts.next o₁ o₂ o₃ i e q.gates (g p.out q.out) wq.gates (h ∙ ap₂ (λ (y z : ℕ). sets o₂ e (gate_words (g y z))) wp.wire wq.wire) ee in
    record { gates = puts.more out o₁ o₃ at i p.gates (q.gates ++ g p.out q.out ∷ []) wp.gates x ei; wire = er }
