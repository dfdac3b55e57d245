-- Wires that carry what each gate makes of them.
use mathlib.Core.Path.{◌≡◌, ap, ◌∙◌}
use mathlib.Core.List.{List, ◌++◌}
use Prim.Native.Nat.{ℕ, ◌+◌, ◌<◌}
use native.Mathlib.Omega.{arith}
use lib.ListN.{length, get_or, length-append, get_or-append}
use lib.Seq.{get_or-append-add}
use Rattle.netlist.specs.declared.gate.Gate.{Gate}
use Rattle.netlist.specs.declared.gate.Gate.TheVariants.{Zero}
use Rattle.netlist.specs.Net.{Alg, at, step, run, GatesWired}
use Rattle.netlist.proofs.Sim.{run_at}

abbrev pub Holds : {X : Type 0} → Alg X → List X → ℕ → List Gate → Type 0
Holds A E w gs = (i : ℕ) → i < length gs → at A E (w + i) ≡ step A E (get_or gs i Zero)

module _ {X : Type 0} (A : Alg X) where
  pub run_holds : (v : List X) (gs : List Gate) → GatesWired (length v) gs → Holds A (run A v gs) (length v) gs
  run_holds v gs u i h = run_at A v gs i u h

  pub holds_left : (E : List X) (w : ℕ) (xs ys : List Gate) → Holds A E w (xs ++ ys) → Holds A E w xs
  holds_left E w xs ys h i q = h i (omega (arith, length-append xs ys)) ∙ ap (step A E) (get_or-append xs ys Zero i q)

  pub holds_right : (E : List X) (w : ℕ) (xs ys : List Gate) → Holds A E w (xs ++ ys) → Holds A E (w + length xs) ys
  holds_right E w xs ys h i q =
      let e : w + length xs + i ≡ w + (length xs + i) = omega arith in
      rw e (h (length xs + i) (omega (arith, length-append xs ys)) ∙ ap (step A E) (get_or-append-add xs ys i Zero))

  pub holds_zero : (E : List X) (w : ℕ) (gs : List Gate) → Holds A E w gs → 0 < length gs → at A E w ≡ step A E (get_or gs 0 Zero)
  holds_zero E w gs h q = let e : w + 0 ≡ w = omega arith in rw e at (h 0 q)
