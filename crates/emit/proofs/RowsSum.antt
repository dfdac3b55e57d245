-- The loop that stores a sum of monomials.
use Prim.Native.Nat.{ℕ, suc, ◌+◌, ◌-◌, ◌*◌, ◌≤◌, ◌<◌}
use mathlib.Core.Bool.{true}
use mathlib.Core.Path.{◌≡◌, refl, sym, ap, ap₂, ◌∙◌}
use mathlib.Core.List.{List, [], ◌∷◌, ◌++◌}
use native.Mathlib.Omega.{arith}
use native.Mathlib.Numerals.{add-one}
use native.Mathlib.Nat.{add-sub_cancel_left}
use lib.ListN.{length, get_or, take, drop, length-take, length-drop}
use lib.Seq.{sets, take_all, take-suc, drop-cons, drop-drop}
use Rattle.netlist.specs.declared.gate.Gate.TheVariants.{And, Xor}
use Rattle.netlist.specs.Part.{Part, past, input, join}
use Rattle.netlist.specs.Put.{put_gates, Wrote}
use Rattle.netlist.proofs.Parts.{length-join}
use Rattle.netlist.proofs.Puts as puts
use Rattle.filter.proofs.Published.{total}
use Rattle.wiring.specs.Exp.{Exp, sum, emit, Split, one, two, factors, chain, product, add_all, monomials}
use Rattle.wiring.specs.Inner.{fits}
use Rattle.emit.specs.InnerRows.{term}
use Rattle.wiring.proofs.Products.{chain_splits, Fits, fits_cons}
use Rattle.emit.proofs.Writes.{wrote_same}

-- a product of k wires takes k - 1 gates
pub product-length : (next : ℕ) (t : Split) (ws : List ℕ) → length (emit next (product t ws)).gates + 1 ≡ factors t
unfolding emit product factors input
product-length next one ws = refl
product-length next (two a b) ws =
    let p = emit next (product a (take (factors a) ws)) in
    let q = emit (past next p) (product b (drop (factors a) ws)) in
    omega (arith, length-join And next p q, product-length next a (take (factors a) ws), product-length (past next p) b (drop (factors a) ws))

pub chain_length : (next : ℕ) (ws : List ℕ) → 1 ≤ length ws → length (emit next (product (chain (length ws)) ws)).gates + 1 ≡ length ws
chain_length next ws h = product-length next (chain (length ws)) ws ∙ chain_splits (length ws) h

-- the chain stored, then the XOR
pub term_wrote : (out o1 o2 : List ℕ) (at i next acc w r k : ℕ) (ws : List ℕ) → 1 ≤ length ws → k ≡ length ws → i ≡ at + 4 * (k - 1) → r ≡ next + (k - 1)
    → Wrote out at (emit next (product (chain (length ws)) ws)) o1 w → o2 ≡ sets o1 i (3 ∷ acc ∷ w ∷ 0 ∷ []) → Wrote out at (term next acc ws) o2 r
unfolding term past
term_wrote out o1 o2 at i next acc w r k ws h ek ei er g e =
    let p = emit next (product (chain (length ws)) ws) in
    let l = chain_length next ws h in
    let q : i ≡ at + 4 * length p.gates = omega arith in
    record {
      gates = puts.next out o1 o2 at i p.gates (Xor acc p.out) g.gates (e ∙ ap (λ (z : ℕ). sets o1 i (3 ∷ acc ∷ z ∷ 0 ∷ [])) g.wire) q;
      wire = omega arith;
    }

total_snoc : (ds : List ℕ) (d : ℕ) → total (ds ++ d ∷ []) ≡ total ds + d
unfolding total
total_snoc [] d = omega arith
total_snoc (e ∷ ds) d = omega (arith, total_snoc ds d)

add_snoc : (acc : Exp) (ds ws : List ℕ) (d : ℕ) → add_all chain acc (ds ++ d ∷ []) ws ≡ sum (add_all chain acc ds ws) (product (chain d) (take d (drop (total ds) ws)))
unfolding add_all total
add_snoc acc [] ws d = refl
add_snoc acc (e ∷ ds) ws d = add_snoc (sum acc (product (chain e) (take e ws))) ds (drop e ws) d
    ∙ ap (λ (l : List ℕ). sum (add_all chain (sum acc (product (chain e) (take e ws))) ds (drop e ws)) (product (chain d) (take d l))) (drop-drop (total ds) e ws)

pub monomials_snoc : (ds ws : List ℕ) (d : ℕ) → 1 ≤ length ds → monomials chain (ds ++ d ∷ []) ws ≡ sum (monomials chain ds ws) (product (chain d) (take d (drop (total ds) ws)))
unfolding monomials total
monomials_snoc [] ws d h = absurd (omega arith)
monomials_snoc (e ∷ ds) ws d h = add_snoc (product (chain e) (take e ws)) ds (drop e ws) d
    ∙ ap (λ (l : List ℕ). sum (add_all chain (product (chain e) (take e ws)) ds (drop e ws)) (product (chain d) (take d l))) (drop-drop (total ds) e ws)

-- the sum of the first j monomials
unfoldable pub sums : ℕ → List ℕ → List ℕ → ℕ → Part
sums next ds xs j = emit next (monomials chain (take j ds) xs)

sums-more : (next : ℕ) (ds xs : List ℕ) (j : ℕ) → 1 ≤ j → j < length ds
    → sums next ds xs (suc j) ≡ join Xor next (sums next ds xs j) (emit (past next (sums next ds xs j)) (product (chain (get_or ds j 0)) (take (get_or ds j 0) (drop (total (take j ds)) xs))))
unfolding sums emit
sums-more next ds xs j h l =
    ap (λ (z : List ℕ). emit next (monomials chain z xs)) (take-suc ds j 0 l)
    ∙ ap (emit next) (monomials_snoc (take j ds) xs (get_or ds j 0) (omega (arith, length-take j ds)))

-- the loop at degree j: used wires, and acc the running sum's wire
pub record Summing (out₀ : List ℕ) (at next : ℕ) (ds xs out : List ℕ) (acc used j : ℕ) : Type 0 where
  pub wrote : Wrote out₀ at (sums next ds xs j) out acc
  pub count : length (sums next ds xs j).gates + 1 ≡ used
  pub spent : used ≡ total (take j ds)
  pub rest : fits (drop j ds) (length xs - used) ≡ true
  pub some : 1 ≤ j
  pub enough : used ≤ length xs
  pub within : j ≤ length ds
  pub out_long : length out ≡ length out₀

module _ (out₀ : List ℕ) (at next : ℕ) (ds xs : List ℕ) where
  -- the next degree, while there is one
  pub summing_fits : (out : List ℕ) (acc used j : ℕ) → Summing out₀ at next ds xs out acc used j → j < length ds → Fits (get_or ds j 0) (drop (suc j) ds) (length xs - used)
  summing_fits out acc used j g h = fits_cons (get_or ds j 0) (drop (suc j) ds) (length xs - used) (ap (λ (z : List ℕ). fits z (length xs - used)) (sym (drop-cons ds j 0 h)) ∙ g.rest)

  pub summing_first : 1 ≤ length ds → fits ds (length xs) ≡ true → Fits (get_or ds 0 0) (drop 1 ds) (length xs)
  summing_first h f = fits_cons (get_or ds 0 0) (drop 1 ds) (length xs) (ap (λ (z : List ℕ). fits z (length xs)) (sym (drop-cons ds 0 0 h)) ∙ f)

  first_is : 1 ≤ length ds → sums next ds xs 1 ≡ emit next (product (chain (get_or ds 0 0)) (take (get_or ds 0 0) xs))
  unfolding sums monomials add_all
  first_is h = ap (λ (z : List ℕ). emit next (monomials chain z xs)) (take-suc ds 0 0 h)

  first-total : 1 ≤ length ds → total (take 1 ds) ≡ get_or ds 0 0
  unfolding total
  first-total h = ap total (take-suc ds 0 0 h) ∙ omega arith

  pub summing_start : (out : List ℕ) (acc d : ℕ) (ws : List ℕ) → 1 ≤ length ds → fits ds (length xs) ≡ true → d ≡ get_or ds 0 0 → ws ≡ take d xs
      → Wrote out₀ at (emit next (product (chain (length ws)) ws)) out acc → Summing out₀ at next ds xs out acc d 1
  summing_start out acc d ws h f e v g =
      let k = summing_first h f in
      let l : length (take d xs) ≡ d = omega (arith, length-take d xs, k.most) in
      let q : emit next (product (chain (length ws)) ws) ≡ sums next ds xs 1 =
      ap (λ (z : List ℕ). emit next (product (chain (length z)) z)) v ∙ ap (λ (n : ℕ). emit next (product (chain n) (take d xs))) l
      ∙ ap (λ (n : ℕ). emit next (product (chain n) (take n xs))) e ∙ sym (first_is h) in
      let c = product-length next (chain d) (take d xs) in
      let c2 = chain_splits d (omega (arith, k.some)) in
      let x : emit next (product (chain d) (take d xs)) ≡ sums next ds xs 1 = ap (λ (n : ℕ). emit next (product (chain n) (take n xs))) e ∙ sym (first_is h) in
      record {
        wrote = wrote_same out₀ out at acc q g;
        count = omega (arith, ap (λ (p : Part). length p.gates) x);
        spent = e ∙ sym (first-total h);
        rest = ap (λ (n : ℕ). fits (drop 1 ds) (length xs - n)) e ∙ k.rest;
        some = omega arith;
        enough = omega (arith, k.most);
        within = h;
        out_long = ap length g.gates ∙ puts.put_length _ out₀ at;
      }

  pub summing_step : (out : List ℕ) (acc used j : ℕ) → Summing out₀ at next ds xs out acc used j → (out' : List ℕ) (acc' d i w : ℕ) (ws : List ℕ) → j < length ds → d ≡ get_or ds j 0
      → i ≡ at + 4 * (used - 1) → w ≡ next + (used - 1) → ws ≡ take d (drop used xs) → Wrote out i (term w acc ws) out' acc' → Summing out₀ at next ds xs out' acc' (used + d) (j + 1)
  unfolding term join past
  summing_step out acc used j g out' acc' d i w ws h e ei ew v t =
      let f = summing_fits out acc used j g h in
      let s = sums next ds xs j in
      let l : length ws ≡ d = ap length v ∙ omega (arith, length-take d (drop used xs), length-drop used xs, f.most) in
      let p = emit w (product (chain (length ws)) ws) in
      let p2 = emit (past next s) (product (chain (get_or ds j 0)) (take (get_or ds j 0) (drop (total (take j ds)) xs))) in
      let u : w ≡ past next s = omega (arith, g.count) in
      let ui : i ≡ at + 4 * length s.gates = omega (arith, g.count) in
      let q : p ≡ p2 = same w (past next s) ws d (get_or ds j 0) used (total (take j ds)) u l v e g.spent in
      let m = sums-more next ds xs j g.some h in
      let x : out' ≡ put_gates out₀ at (s.gates ++ (p2.gates ++ Xor s.out p2.out ∷ [])) =
      puts.more out₀ out out' at i s.gates _ g.wrote.gates (t.gates ∙ ap₂ (λ (a : ℕ) (z : Part). put_gates out i (z.gates ++ Xor a z.out ∷ [])) g.wrote.wire q) ui in
      let lp = product-length w (chain (length ws)) ws in
      let ls = chain_splits (length ws) (omega (arith, f.some)) in
      let lq = ap (λ (z : Part). length z.gates) q in
      rw (add-one j) (record {
        wrote = record {
          gates = x ∙ sym (ap (λ (z : Part). put_gates out₀ at z.gates) m);
          wire = t.wire ∙ ap₂ (λ (a : ℕ) (b : Part). a + length b.gates) u q ∙ sym (ap (λ (z : Part). z.out) m);
        };
        count = omega (arith, ap (λ (z : Part). length z.gates) m, length-join Xor next s p2, g.count);
        spent = ap₂ (λ (a b : ℕ). a + b) g.spent e ∙ sym (total_snoc (take j ds) (get_or ds j 0)) ∙ sym (ap total (take-suc ds j 0 h));
        rest = let z : length xs - (used + d) ≡ length xs - used - get_or ds j 0 = omega arith in ap (fits (drop (suc j) ds)) z ∙ f.rest;
        some = omega arith;
        enough = omega (arith, f.most, g.enough);
        within = omega arith;
        out_long = ap length x ∙ puts.put_length _ out₀ at;
      })
    where
      same : (a b : ℕ) (ws : List ℕ) (d e u v : ℕ) → a ≡ b → length ws ≡ d → ws ≡ take d (drop u xs) → d ≡ e → u ≡ v
          → emit a (product (chain (length ws)) ws) ≡ emit b (product (chain e) (take e (drop v xs)))
      same a b ws d e u v p l w q r =
          ap (λ (n : ℕ). emit a (product (chain n) ws)) l ∙ ap₂ (λ (n : ℕ) (z : List ℕ). emit n (product (chain d) z)) p w
          ∙ ap₂ (λ (n k : ℕ). emit b (product (chain n) (take n (drop k xs)))) q r

  pub summing_end : (out : List ℕ) (acc used j : ℕ) → Summing out₀ at next ds xs out acc used j → length ds ≤ j → Wrote out₀ at (emit next (monomials chain ds xs)) out acc
  unfolding sums
  summing_end out acc used j g h =
      let q : sums next ds xs j ≡ emit next (monomials chain ds xs) = ap (λ (z : List ℕ). emit next (monomials chain z xs)) (take_all j ds h) in
      wrote_same out₀ out at acc q g.wrote

-- A loop that begins after something was stored: it stands as Summing says of what the function was lent, whatever that was.
abbrev pub Onward : List ℕ → ℕ → ℕ → ℕ → ℕ → List ℕ → List ℕ → List ℕ → ℕ → ℕ → ℕ → Type 0
Onward out₀ acc₀ used₀ at next ds xs out acc used j =
    ((o : List ℕ) × Summing o at next ds xs out₀ acc₀ used₀ 1) × ((o : List ℕ) → Summing o at next ds xs out₀ acc₀ used₀ 1 → Summing o at next ds xs out acc used j)

-- what it says, of some list lent: what a turn asks, and that nothing grew
pub record Fitting (ds xs : List ℕ) (used j : ℕ) : Type 0 where
  pub some : 1 ≤ used
  pub enough : used ≤ length xs
  pub next : Fits (get_or ds j 0) (drop (suc j) ds) (length xs - used)

module _ (out₀ : List ℕ) (acc₀ used₀ at next : ℕ) (ds xs out : List ℕ) (acc used j : ℕ) (v : Onward out₀ acc₀ used₀ at next ds xs out acc used j) where
  lent : List ℕ
  lent = v.0.0

  here : Summing lent at next ds xs out acc used j
  unfolding lent
  here = v.1 lent v.0.1

  pub fitting : j < length ds → Fitting ds xs used j
  fitting h = record { some = omega (arith, here.count); enough = here.enough; next = summing_fits lent at next ds xs out acc used j here h }

  pub as_long : length out ≡ length out₀
  unfolding lent
  as_long = here.out_long ∙ sym v.0.1.out_long

-- a turn, in the code's words
pub summing_turn : (o : List ℕ) (at next : ℕ) (ds xs out : List ℕ) (acc used j : ℕ) → Summing o at next ds xs out acc used j → (out' : List ℕ) (acc' d : ℕ) → j < length ds → d ≡ get_or ds j 0
    → Wrote out (at + 4 * (used - 1)) (term (next + (used - 1)) acc (take (used + d - used) (drop used xs))) out' acc' → Summing o at next ds xs out' acc' (used + d) (j + 1)
summing_turn o at next ds xs out acc used j g out' acc' d h e t =
    summing_step o at next ds xs out acc used j g out' acc' d (at + 4 * (used - 1)) (next + (used - 1)) (take (used + d - used) (drop used xs)) h e refl refl
    (ap (λ (n : ℕ). take n (drop used xs)) (add-sub_cancel_left used d)) t
