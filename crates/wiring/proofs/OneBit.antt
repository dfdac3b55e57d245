-- One bit of a deciphering netlist: what its part carries, that it sits, what it costs.
use Prim.Native.Nat.{ℕ, ◌+◌, ◌%◌, ◌<◌, ◌≤◌}
use mathlib.Core.Path.{◌≡◌, ap, ◌∙◌}
use mathlib.Core.List.{List, map}
use native.Mathlib.Omega.{arith}
use lib.ListN.{length, length-append}
use Rattle.netlist.specs.Net.{Alg, at, run, val_alg, dep_alg, muls_of}
use Rattle.netlist.specs.Part.{Carries, Sits}
use Rattle.netlist.proofs.Sim.{run-append, run_length, run_keeps}
use Rattle.netlist.proofs.Glued.{wired_append, muls-append}
use Rattle.instance.specs.Table.{row_bits}
use Rattle.filter.specs.Instances.{filter_of}
use Rattle.wiring.specs.Exp.{Exp, wire, emit, Split}
use Rattle.wiring.specs.Costs.{Cost}
use Rattle.wiring.proofs.Tally.{muls, deep, size}
use Rattle.wiring.specs.Decipher.{nots, vars, filter_exp, bit_exp, bit_part}
use Rattle.wiring.proofs.Exps.{All, Over, carried, emit_carries, emit_sits, emit-mults, emit-size, depth-deep}
use Rattle.wiring.proofs.Products.{Splits, on, sum_two}
use Rattle.wiring.proofs.Filters.{Known, filter-over, filter_value, filter-muls, filter-size, filter-deep}
use Rattle.wiring.proofs.Whitening.{nots_wired, nots-mults, vars_below, vars-length, all_back}

-- over any algebra
module _ {X : Type 0} (A : Alg X) (S : ℕ → Split) (inst rec next : ℕ) (row ws : List ℕ) where
  abbrev E : Exp
  E = bit_exp S inst rec next row ws

  part_carries : (v : List X) → next ≡ length v → Over (λ w. w < length (run A v (nots row ws))) E
      → Carries A v (bit_part S inst rec next row ws) (carried A (run A v (nots row ws)) E)
  unfolding bit_part
  part_carries v n o =
      let l = run_length A v (nots row ws) in
      let p = emit (next + length (nots row ws)) E in
      let c = emit_carries A E (run A v (nots row ws)) (next + length (nots row ws)) (omega arith) o in
      record {
        value = ap (λ (z : List X). at A z p.out) (run-append A v (nots row ws) p.gates) ∙ c.value;
        inside = simp length-append (omega (arith, c.inside));
      }

module _ (S : ℕ → Split) (K : Splits S) (inst : ℕ) (c : Cost) (k : Known S inst c) (rec next : ℕ) (row ws : List ℕ)
    (n : length row ≡ row_bits inst) (b : All (λ p. p < next) row) (r : rec < next) where
  many : length (vars next row ws) ≡ row_bits inst
  many = vars-length next row ws ∙ n

  bit-over : (P : ℕ → Type 0) → All P (vars next row ws) → P rec → Over P (bit_exp S inst rec next row ws)
  unfolding bit_exp
  bit-over P a p = (filter-over S K inst c k (vars next row ws) many P a, p)

  bit_below : Over (λ w. w < next + length (nots row ws)) (bit_exp S inst rec next row ws)
  bit_below = bit-over (λ w. w < next + length (nots row ws)) (vars_below next row ws b) (omega arith)

  pub bit-muls : muls_of (bit_part S inst rec next row ws).gates ≡ c.mults
  unfolding bit_part bit_exp muls
  bit-muls =
      let e = emit-mults _ (bit_exp S inst rec next row ws) (next + length (nots row ws)) bit_below in
      muls-append (nots row ws) _ ∙ omega (arith, nots-mults row ws, filter-muls S K inst c k (vars next row ws) many)

  pub bit-size : length (bit_part S inst rec next row ws).gates ≡ length (nots row ws) + c.gates
  unfolding bit_part bit_exp size
  bit-size =
      let e = emit-size _ (bit_exp S inst rec next row ws) (next + length (nots row ws)) bit_below in
      length-append (nots row ws) _ ∙ omega (arith, filter-size S K inst c k (vars next row ws) many)

  pub bit_sits : Sits next (bit_part S inst rec next row ws)
  unfolding bit_part
  bit_sits =
      let s = emit_sits (bit_exp S inst rec next row ws) (next + length (nots row ws)) bit_below in
      record {
        wired = wired_append next (nots row ws) _ (nots_wired next row ws b) s.wired;
        inside = simp length-append (omega (arith, s.inside));
      }

  pub bit_any : {X : Type 0} (A : Alg X) (v : List X) → next ≡ length v
      → Carries A v (bit_part S inst rec next row ws) (carried A (run A v (nots row ws)) (bit_exp S inst rec next row ws))
  bit_any A v lv = part_carries A S inst rec next row ws v lv (rw (run_length A v (nots row ws), ← lv) bit_below)

  -- values: the filter over what the variables carry, and the record's bit
  pub bit_value : (v : List ℕ) → next ≡ length v → (xs : List ℕ) → on (run val_alg v (nots row ws)) (vars next row ws) ≡ xs → All (λ x. x ≤ 1) xs → at val_alg v rec ≤ 1
      → carried val_alg (run val_alg v (nots row ws)) (bit_exp S inst rec next row ws) ≡ (filter_of inst xs + at val_alg v rec) % 2
  unfolding bit_exp filter_of carried
  bit_value v lv xs e a h =
      let v1 = run val_alg v (nots row ws) in
      sum_two v1 (filter_exp S inst (vars next row ws)) (wire rec) (filter_of inst xs) (at val_alg v rec)
      (filter_value S K inst c k (vars next row ws) many v1 (all_back (at val_alg v1) (λ x. x ≤ 1) (vars next row ws) xs e a) ∙ ap (filter_of inst) e)
      (run_keeps val_alg v (nots row ws) rec (omega arith))
      (omega arith) h

  -- depth, where the row's wires and the record's have depth 0
  pub bit-depth : (v : List ℕ) → next ≡ length v → (xs : List ℕ) → map (at dep_alg (run dep_alg v (nots row ws))) (vars next row ws) ≡ xs → All (λ x. x ≡ 0) xs → at dep_alg v rec ≡ 0
      → carried dep_alg (run dep_alg v (nots row ws)) (bit_exp S inst rec next row ws) ≡ c.depth
  unfolding bit_exp deep
  bit-depth v lv xs e a h =
      let v1 = run dep_alg v (nots row ws) in
      depth-deep v1 (bit_exp S inst rec next row ws)
      (bit-over (λ w. at dep_alg v1 w ≡ 0) (all_back (at dep_alg v1) (λ x. x ≡ 0) (vars next row ws) xs e a) (run_keeps dep_alg v (nots row ws) rec (omega arith) ∙ h))
      ∙ omega (arith, filter-deep S K inst c k (vars next row ws) many)
