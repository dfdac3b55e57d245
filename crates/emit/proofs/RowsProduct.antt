-- The loop that stores a product as a chain.
use Prim.Native.Nat.{ℕ, zero, suc, ◌+◌, ◌*◌, ◌≤◌, ◌<◌}
use mathlib.Core.Path.{◌≡◌, refl, ap, ap₂, ◌∙◌}
use mathlib.Core.List.{List, [], ◌∷◌, ◌++◌}
use native.Mathlib.Omega.{arith}
use native.Mathlib.Numerals.{add-one}
use lib.ListN.{length, get_or, take, drop, length-append}
use lib.Seq.{sets, take-take, take_all, get_or-drop, get_or-take}
use Rattle.netlist.specs.declared.gate.Gate.TheVariants.{And}
use Rattle.netlist.specs.Part.{Part, past, input, join}
use Rattle.netlist.specs.Put.{put_gates, Wrote}
use Rattle.netlist.proofs.Puts as puts
use Rattle.wiring.specs.Exp.{emit, factors, chain, product}
use Rattle.wiring.proofs.Products.{chain_splits}
use Rattle.emit.proofs.Writes.{wrote_same}

-- the product of the first j wires
unfoldable pub firsts : ℕ → List ℕ → ℕ → Part
firsts next ws j = emit next (product (chain j) (take j ws))

firsts-one : (next : ℕ) (ws : List ℕ) → 1 ≤ length ws → firsts next ws 1 ≡ input (get_or ws 0 0)
unfolding firsts emit product chain
firsts-one next [] h = absurd (omega arith)
firsts-one next (w ∷ ws) h = refl

firsts_more : (next j : ℕ) (ws : List ℕ) → 1 ≤ j → firsts next ws (suc j) ≡ join And next (firsts next ws j) (input (get_or ws j 0))
unfolding firsts emit product chain
firsts_more next zero ws h = absurd (omega arith)
firsts_more next (suc j) ws h =
    let k = suc j in
    let f : factors (chain k) ≡ k = chain_splits k h in
    let e1 : take (factors (chain k)) (take (suc k) ws) ≡ take k ws = ap (λ (n : ℕ). take n (take (suc k) ws)) f ∙ take-take k (suc k) ws (omega arith) in
    let z : k + 0 ≡ k = omega arith in
    let e2 : get_or (drop (factors (chain k)) (take (suc k) ws)) 0 0 ≡ get_or ws k 0 =
    ap (λ (n : ℕ). get_or (drop n (take (suc k) ws)) 0 0) f ∙ get_or-drop k (take (suc k) ws) 0 0 ∙ ap (λ (n : ℕ). get_or (take (suc k) ws) n 0) z ∙ get_or-take (suc k) ws k 0 (omega arith) in
    ap₂ (λ (a : List ℕ) (b : ℕ). join And next (emit next (product (chain k) a)) (input b)) e1 e2

-- at place j: acc is the running product's wire
pub record Chaining (out₀ : List ℕ) (at next : ℕ) (ws out : List ℕ) (i acc wire j : ℕ) : Type 0 where
  pub wrote : Wrote out₀ at (firsts next ws j) out acc
  pub count : length (firsts next ws j).gates + 1 ≡ j
  pub index : i + 4 ≡ at + 4 * j
  pub free : wire + 1 ≡ next + j
  pub some : 1 ≤ j
  pub within : j ≤ length ws
  pub out_long : length out ≡ length out₀

module _ (out₀ : List ℕ) (at next : ℕ) (ws : List ℕ) where
  pub chaining_start : 1 ≤ length ws → Chaining out₀ at next ws out₀ at (get_or ws 0 0) next 1
  unfolding input put_gates
  chaining_start h =
      let e = firsts-one next ws h in
      record {
        wrote = record { gates = rw e refl; wire = rw e refl };
        count = rw e refl;
        index = omega arith;
        free = omega arith;
        some = omega arith;
        within = h;
        out_long = refl;
      }

  module _ (out : List ℕ) (i acc wire j : ℕ) (g : Chaining out₀ at next ws out i acc wire j) where
    pub chaining_step : (out' : List ℕ) → j < length ws → out' ≡ sets out i (4 ∷ acc ∷ get_or ws j 0 ∷ 0 ∷ []) → Chaining out₀ at next ws out' (i + 4) wire (wire + 1) (j + 1)
    unfolding join input past
    chaining_step out' h e =
        let p = firsts next ws j in
        let m = firsts_more next j ws g.some in
        let q : i ≡ at + 4 * length p.gates = omega (arith, g.index, g.count) in
        let w : wire ≡ next + length p.gates + 0 = omega (arith, g.free, g.count) in
        let x : out' ≡ put_gates out₀ at (p.gates ++ And p.out (get_or ws j 0) ∷ []) =
        puts.next out₀ out out' at i p.gates (And p.out (get_or ws j 0)) g.wrote.gates (e ∙ ap (λ (a : ℕ). sets out i (4 ∷ a ∷ get_or ws j 0 ∷ 0 ∷ [])) g.wrote.wire) q in
        rw (add-one j) (record {
          wrote = record { gates = x ∙ rw m refl; wire = w ∙ rw m refl };
          count = rw m (simp length-append (omega (arith, g.count)));
          index = omega (arith, g.index);
          free = omega (arith, g.free);
          some = omega arith;
          within = omega arith;
          out_long = ap length x ∙ puts.put_length _ out₀ at;
        })

    pub chaining_end : length ws ≤ j → Wrote out₀ at (emit next (product (chain (length ws)) ws)) out acc
    unfolding firsts
    chaining_end h =
        let e : j ≡ length ws = omega (arith, g.within) in
        let p : take j ws ≡ ws = take_all j ws h in
        let q : firsts next ws j ≡ emit next (product (chain (length ws)) ws) = ap₂ (λ (k : ℕ) (l : List ℕ). emit next (product (chain k) l)) e p in
        wrote_same out₀ out at acc q g.wrote
