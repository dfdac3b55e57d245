-- The loop over a row: its NOTs, and the wires of its variables.
use Prim.Native.Nat.{ℕ, zero, suc, ◌+◌, ◌*◌, ◌≤◌, ◌<◌}
use mathlib.Core.Path.{◌≡◌, refl, sym, ap, ap₂, ◌∙◌}
use mathlib.Core.List.{List, [], ◌∷◌, ◌++◌, append_assoc, append-nil}
use native.Mathlib.Omega.{arith}
use native.Mathlib.Numerals.{add-one}
use lib.ListN.{length, get_or, take, drop, set, length-append, length-set, drop_of_length-le}
use lib.Seq.{sets, length-sets, drop-cons, take-suc-set, take_all}
use mir.Val.{bool_byte}
use mathlib.Core.Bool.{Bool, not}
use borrow.Author.Tests.{ne_eqb}
use Rattle.std.specs.Prelude.{nat_eq}
use Rattle.netlist.specs.declared.gate.Gate.{Gate}
use Rattle.netlist.specs.declared.gate.Gate.TheVariants.{Not}
use Rattle.netlist.specs.Gates.{gate_words}
use Rattle.netlist.specs.Put.{put_gates}
use Rattle.netlist.proofs.Puts.{Awaits, put_over}
use Rattle.wiring.specs.Decipher.{nots, vars}
use Rattle.emit.specs.InnerRows.{variable_wire, flips}

nots-one : (p w : ℕ) (ps ws : List ℕ) → nots (p ∷ ps) (w ∷ ws) ≡ nots (p ∷ []) (w ∷ []) ++ nots ps ws
unfolding nots
nots-one p zero ps ws = refl
nots-one p (suc w) ps ws = refl

nots_count : (p w : ℕ) → length (nots (p ∷ []) (w ∷ [])) ≡ flips w
unfolding nots flips
nots_count p zero = refl
nots_count p (suc w) = refl

vars-one : (p w : ℕ) (ps ws : List ℕ) (next : ℕ) → vars next (p ∷ ps) (w ∷ ws) ≡ variable_wire p w next ∷ vars (next + flips w) ps ws
unfolding vars variable_wire flips
vars-one p zero ps ws next = let e : next ≡ next + 0 = omega arith in ap (λ (n : ℕ). p ∷ vars n ps ws) e
vars-one p (suc w) ps ws next = ap (λ (n : ℕ). next ∷ vars n ps ws) (sym (add-one next))

pub nots_few : (row ws : List ℕ) → length (nots row ws) ≤ length row
unfolding nots
nots_few [] ws = omega arith
nots_few (p ∷ ps) [] = omega (arith, nots_few ps [])
nots_few (p ∷ ps) (zero ∷ ws) = omega (arith, nots_few ps ws)
nots_few (p ∷ ps) (suc w ∷ ws) = omega (arith, nots_few ps ws)

-- a variable's wire is there after the NOTs if its key wire is there before
pub vars-at : (next j : ℕ) (row ws : List ℕ) → j < length row → get_or row j 0 < next → get_or (vars next row ws) j 0 < next + length (nots row ws)
unfolding nots vars
vars-at next j [] ws h b = absurd (omega arith)
vars-at next zero (p ∷ ps) [] h b = omega arith
vars-at next zero (p ∷ ps) (zero ∷ ws) h b = omega arith
vars-at next zero (p ∷ ps) (suc w ∷ ws) h b = omega arith
vars-at next (suc j) (p ∷ ps) [] h b = vars-at next j ps [] (omega arith) b
vars-at next (suc j) (p ∷ ps) (zero ∷ ws) h b = vars-at next j ps ws (omega arith) b
vars-at next (suc j) (p ∷ ps) (suc w ∷ ws) h b = omega (arith, vars-at (suc next) j ps ws (omega arith) (omega arith))

flips-bit : (w : ℕ) → flips w ≤ 1
unfolding flips
flips-bit zero = omega arith
flips-bit (suc w) = omega arith

-- a NOT is stored, and it counts or the next gate goes over it
not_turn : (out : List ℕ) (i p w : ℕ) (rest : List Gate) (x : Gate)
    → put_gates (sets out i (gate_words (Not p))) (i + 4 * flips w) (rest ++ x ∷ []) ≡ put_gates out i (nots (p ∷ []) (w ∷ []) ++ (rest ++ x ∷ []))
unfolding nots flips put_gates
not_turn out i p zero rest x =
    let z : i + 4 * 0 ≡ i = omega arith in
    ap (λ (k : ℕ). put_gates (sets out i (gate_words (Not p))) k (rest ++ x ∷ [])) z ∙ put_over rest (Not p) x out i
not_turn out i p (suc w) rest x = refl

-- at place j, with the next word i to store at and the next wire
pub record Going (row ws out₀ : List ℕ) (at next : ℕ) (out xs : List ℕ) (i wire j : ℕ) : Type 0 where
  pub gates : (x : Gate) → put_gates out i (nots (drop j row) (drop j ws) ++ x ∷ []) ≡ put_gates out₀ at (nots row ws ++ x ∷ [])
  pub wires : take j xs ++ vars wire (drop j row) (drop j ws) ≡ vars next row ws
  pub count : wire + length (nots (drop j row) (drop j ws)) ≡ next + length (nots row ws)
  pub index : i + 4 * length (nots (drop j row) (drop j ws)) ≡ at + 4 * length (nots row ws)
  pub room : at + 4 * (length (nots row ws) + 1) ≤ length out₀
  pub few : wire ≤ next + j
  pub within : j ≤ length row
  pub out_long : length out ≡ length out₀
  pub xs_long : length xs ≡ length row
  pub ws_long : length ws ≡ length row

module _ (row ws out₀ : List ℕ) (at next : ℕ) where
  pub going_start : (xs : List ℕ) → length ws ≡ length row → length xs ≡ length row → at + 4 * (length (nots row ws) + 1) ≤ length out₀ → Going row ws out₀ at next out₀ xs at next 0
  going_start xs a b c = record { gates = λ x. refl; wires = refl; count = refl; index = refl; room = c; few = omega arith; within = omega arith; out_long = refl; xs_long = b; ws_long = a }

  module _ (out xs : List ℕ) (i wire j : ℕ) (g : Going row ws out₀ at next out xs i wire j) where
    nots-here : j < length row → nots (drop j row) (drop j ws) ≡ nots (get_or row j 0 ∷ []) (get_or ws j 0 ∷ []) ++ nots (drop (suc j) row) (drop (suc j) ws)
    nots-here h =
        ap₂ nots (drop-cons row j 0 h) (drop-cons ws j 0 (omega (arith, g.ws_long)))
        ∙ nots-one (get_or row j 0) (get_or ws j 0) (drop (suc j) row) (drop (suc j) ws)

    length-here : j < length row → length (nots (drop j row) (drop j ws)) ≡ flips (get_or ws j 0) + length (nots (drop (suc j) row) (drop (suc j) ws))
    length-here h =
        ap length (nots-here h)
        ∙ length-append (nots (get_or row j 0 ∷ []) (get_or ws j 0 ∷ [])) _
        ∙ ap (λ (n : ℕ). n + length (nots (drop (suc j) row) (drop (suc j) ws))) (nots_count (get_or row j 0) (get_or ws j 0))

    pub going_room : i + 4 ≤ length out
    going_room = omega (arith, g.room, g.index, g.out_long)

    pub going_step : (out' : List ℕ) (more a : ℕ) → j < length row → out' ≡ sets out i (gate_words (Not (get_or row j 0))) → more ≡ flips (get_or ws j 0)
        → a ≡ variable_wire (get_or row j 0) (get_or ws j 0) wire
        → Going row ws out₀ at next out' (set xs j a) (i + 4 * more) (wire + more) (j + 1)
    going_step out' more a h e m w =
        let one = nots (get_or row j 0 ∷ []) (get_or ws j 0 ∷ []) in
        let rest = nots (drop (suc j) row) (drop (suc j) ws) in
        let lh = length-here h in
        let f = flips-bit (get_or ws j 0) in
        rw (add-one j) (record {
          gates = λ x. ap₂ (λ (o : List ℕ) (n : ℕ). put_gates o (i + 4 * n) (rest ++ x ∷ [])) e m
              ∙ not_turn out i (get_or row j 0) (get_or ws j 0) rest x
              ∙ ap (put_gates out i) (sym (append_assoc one rest (x ∷ [])) ∙ ap (λ (z : List Gate). z ++ x ∷ []) (sym (nots-here h)))
              ∙ g.gates x;
          wires = ap₂ ◌++◌ (take-suc-set xs j a (omega (arith, g.xs_long))) refl
              ∙ append_assoc (take j xs) (a ∷ []) _
              ∙ ap (λ (z : List ℕ). take j xs ++ z) (ap₂ (λ (x n : ℕ). x ∷ vars (wire + n) (drop (suc j) row) (drop (suc j) ws)) w m
              ∙ sym (vars-one (get_or row j 0) (get_or ws j 0) (drop (suc j) row) (drop (suc j) ws) wire)
              ∙ sym (ap₂ (vars wire) (drop-cons row j 0 h) (drop-cons ws j 0 (omega (arith, g.ws_long)))))
              ∙ g.wires;
          count = omega (arith, g.count);
          index = omega (arith, g.index);
          room = g.room;
          few = omega (arith, g.few);
          within = omega arith;
          out_long = ap length e ∙ length-sets out i (gate_words (Not (get_or row j 0))) ∙ g.out_long;
          xs_long = length-set xs j a ∙ g.xs_long;
          ws_long = g.ws_long;
        })

    pub record Ended : Type 0 where
      pub gates : Awaits out₀ at (nots row ws) out
      pub wires : xs ≡ vars next row ws
      pub index : i ≡ at + 4 * length (nots row ws)
      pub count : wire ≡ next + length (nots row ws)

    pub going_end : length row ≤ j → Ended
    unfolding nots vars
    going_end h =
        let d1 = drop_of_length-le row h in
        let d2 = drop_of_length-le ws {i = j} (omega (arith, g.ws_long)) in
        record {
          gates = λ x. ap (λ (k : ℕ). put_gates out k (x ∷ [])) (omega (arith, ap₂ (λ (a b : List ℕ). length (nots a b)) d1 d2, g.index))
              ∙ sym (ap₂ (λ (a b : List ℕ). put_gates out i (nots a b ++ x ∷ [])) d1 d2)
              ∙ g.gates x;
          wires = sym (ap₂ ◌++◌ (take_all j xs (omega (arith, g.xs_long))) (ap₂ (vars wire) d1 d2) ∙ append-nil xs) ∙ g.wires;
          index = omega (arith, ap₂ (λ (a b : List ℕ). length (nots a b)) d1 d2, g.index);
          count = omega (arith, ap₂ (λ (a b : List ℕ). length (nots a b)) d1 d2, g.count);
        }

-- one place: its wire and its NOT, by its whitening
pub wire_plain : (p w n : ℕ) → w ≡ 0 → p ≡ variable_wire p w n
unfolding variable_wire
wire_plain p zero n e = refl
wire_plain p (suc w) n e = absurd (omega arith)

pub wire_not : (p w n : ℕ) → (w ≡ 0 → ⊥) → n ≡ variable_wire p w n
unfolding variable_wire
wire_not p zero n e = absurd (e refl)
wire_not p (suc w) n e = refl

-- what the code makes of a test, and that it is 0 or 1
pub flips_told : (w : ℕ) {r : ℕ} → r ≡ bool_byte (not (nat_eq w 0)) → (r ≡ flips w) × (r ≤ 1)
unfolding flips
flips_told zero e = (e, omega (arith, e))
flips_told (suc w) e =
    let t : bool_byte (not (nat_eq (suc w) 0)) ≡ 1 = ap (λ (b : Bool). bool_byte (not b)) (ne_eqb (suc w) 0 (λ z. absurd (omega arith))) in
    (e ∙ t, omega (arith, e, t))

-- a row without whitening
pub record Bare (next : ℕ) (row ws : List ℕ) : Type 0 where
  pub gates : nots row ws ≡ []
  pub wires : vars next row ws ≡ row

pub bare : (next : ℕ) (row ws : List ℕ) → ((k : ℕ) → k < length ws → get_or ws k 0 ≡ 0) → Bare next row ws
unfolding nots vars
bare next [] ws z = record { gates = refl; wires = refl }
bare next (p ∷ ps) [] z = let b = bare next ps [] z in record { gates = b.gates; wires = ap (λ (l : List ℕ). p ∷ l) b.wires }
bare next (p ∷ ps) (zero ∷ ws) z =
    let b = bare next ps ws (λ k h. z (suc k) (omega arith)) in
    record { gates = b.gates; wires = ap (λ (l : List ℕ). p ∷ l) b.wires }
bare next (p ∷ ps) (suc w ∷ ws) z = absurd (omega (arith, z 0 (omega arith)))
