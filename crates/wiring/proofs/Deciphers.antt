-- The deciphering netlists over any way of splitting products: values for every key and record, depth, multiplications,
-- gates, validity.
use Prim.Native.Nat.{ℕ, zero, suc, ◌+◌, ◌*◌, ◌%◌, ◌<◌, ◌≤◌}
use mathlib.Core.Path.{◌≡◌, refl, sym, ap, ap₂, ◌∙◌, subst}
use mathlib.Core.List.{List, [], ◌∷◌, ◌++◌, map}
use native.Mathlib.Omega.{arith}
use native.Mathlib.Nat.{mul-le-mul_right, suc-mul, zero-mul}
use lib.ListN.{length, get_or, take, drop, replicate, length-append, length-take, length-drop, length-replicate, get_or-replicate, take-append-drop, drop_of_length-le, get_or-append}
use lib.Seq.{get_or-append-add, get_or-drop, drop-drop}
use Rattle.netlist.specs.declared.gate.Gate.{Gate}
use Rattle.netlist.specs.Net.{Alg, at, run, eval, depth, mults, max_of, val_alg, dep_alg, muls_of, GatesWired, Below, Valid}
use Rattle.netlist.specs.Part.{past, Carries, Sits}
use Rattle.netlist.proofs.Sim.{run-append, run_length, run_keeps}
use Rattle.netlist.proofs.Glued.{muls-append, wired_append}
use Rattle.instance.specs.Table.{key_bits, row_bits}
use Rattle.filter.specs.Filter.{var, tab, ones}
use Rattle.filter.specs.Instances.{filter_of, row_bit}
use Rattle.wiring.specs.Exp.{Split}
use Rattle.wiring.specs.Costs.{Cost}
use Rattle.wiring.specs.Decipher.{nots, bit_part, row_at, part_at, bits_gates, bits_outs, rows_net}
use Rattle.wiring.specs.Rows.{Rows, Inputs, decipher_bit}
use Rattle.wiring.proofs.Exps.{All, all_map}
use Rattle.wiring.proofs.Products.{Splits, all_take, all_drop}
use Rattle.wiring.proofs.Filters.{Known}
use Rattle.wiring.proofs.Whitening.{Old, whites, nots_carry, nots-ones, whites-tab, whites-all, neg_bit}
use Rattle.wiring.proofs.OneBit.{bit-muls, bit-size, bit_sits, bit_any, bit_value, bit-depth}

at_all : (P : ℕ → Type 0) (xs : List ℕ) → ((j : ℕ) → j < length xs → P (get_or xs j 0)) → All P xs
at_all P [] f = tt
at_all P (x ∷ xs) f = (f 0 (omega arith), at_all P xs (λ j h. f (suc j) (omega arith)))

-- ---- rows end to end
row_fits : (n i m : ℕ) → i < m → i * n + n ≤ m * n
row_fits n i m h = omega (arith, mul-le-mul_right n h, suc-mul i n)

pub row-length : (n i m : ℕ) (l : List ℕ) → length l ≡ m * n → i < m → length (row_at n i l) ≡ n
unfolding row_at
row-length n i m l e h = omega (arith, length-take n (drop (i * n) l), length-drop (i * n) l, row_fits n i m h)

row-all : (P : ℕ → Type 0) (n i : ℕ) (l : List ℕ) → All P l → All P (row_at n i l)
unfolding row_at
row-all P n i l a = all_take P n (drop (i * n) l) (all_drop P (i * n) l a)

ones-append : (xs ys : List ℕ) → ones (xs ++ ys) ≡ ones xs + ones ys
unfolding ones
ones-append [] ys = omega arith
ones-append (x ∷ xs) ys = omega (arith, ones-append xs ys)

-- the ones of a row, and of the rows after it
row-ones : (n i : ℕ) (l : List ℕ) → ones (row_at n i l) + ones (drop (suc i * n) l) ≡ ones (drop (i * n) l)
unfolding row_at
row-ones n i l =
    let r = drop (i * n) l in
    ap (λ (z : ℕ). ones (take n r) + z) (ap ones (ap (λ (z : ℕ). drop z l) (suc-mul i n) ∙ sym (drop-drop n (i * n) l)))
    ∙ sym (ones-append (take n r) (drop n r))
    ∙ ap ones (take-append-drop n r)

-- ---- all bits
abbrev list_of : {X : Type 0} → (ℕ → X) → ℕ → ℕ → List X
list_of f zero i = []
list_of f (suc k) i = f i ∷ list_of f k (suc i)

list_snoc : (f : ℕ → ℕ) (k i : ℕ) → list_of f (suc k) i ≡ list_of f k i ++ f (i + k) ∷ []
list_snoc f zero i = ap (λ (z : ℕ). f z ∷ []) (omega arith)
list_snoc f (suc k) i = let e : suc i + k ≡ i + suc k = omega arith in ap (λ z. f i ∷ z) (list_snoc f k (suc i) ∙ ap (λ (z : ℕ). list_of f k (suc i) ++ f z ∷ []) e)

list_tab : (f : ℕ → ℕ) (k : ℕ) → list_of f k 0 ≡ tab f k
unfolding tab
list_tab f zero = refl
list_tab f (suc k) = let e : 0 + k ≡ k = omega arith in list_snoc f k 0 ∙ ap₂ (λ (a : List ℕ) (z : ℕ). a ++ f z ∷ []) (list_tab f k) e

-- the inputs stand in v as in u
record Same {X : Type 0} (A : Alg X) (top : ℕ) (u v : List X) : Type 0 where
  long : top ≤ length v
  eq : (w : ℕ) → w < top → at A v w ≡ at A u w

same-run : {X : Type 0} (A : Alg X) (top : ℕ) (u v : List X) (g : List Gate) → Same A top u v → Same A top u (run A v g)
same-run A top u v g s = record { long = omega (arith, run_length A v g, s.long); eq = λ w h. run_keeps A v g w (omega (arith, s.long)) ∙ s.eq w h }

module _ (S : ℕ → Split) (inst : ℕ) (idx wh : List ℕ) where
  -- what each bit's part carries is what the outputs carry
  outs_list : {X : Type 0} (A : Alg X) (u : List X) (top m : ℕ) (f : ℕ → X)
      → ((i next : ℕ) (v : List X) → i < m → next ≡ length v → Same A top u v → Carries A v (part_at S inst idx wh i next) (f i))
      → (k i next : ℕ) (v : List X) → i + k ≤ m → next ≡ length v → Same A top u v
      → map (at A (run A v (bits_gates S inst idx wh k i next))) (bits_outs S inst idx wh k i next) ≡ list_of f k i
  unfolding bits_gates bits_outs past
  outs_list A u top m f c zero i next v h n s = refl
  outs_list {X} A u top m f c (suc k) i next v h n s =
      let p = part_at S inst idx wh i next in
      let cp = c i next v (omega arith) n s in
      let l = run_length A v p.gates in
      ap (λ (r : List X). map (at A r) (bits_outs S inst idx wh (suc k) i next)) (run-append A v p.gates (bits_gates S inst idx wh k (suc i) (next + length p.gates)))
      ∙ (ap₂ ◌∷◌ (run_keeps A (run A v p.gates) (bits_gates S inst idx wh k (suc i) (next + length p.gates)) p.out (omega (arith, cp.inside)) ∙ cp.value)
      (outs_list A u top m f c k (suc i) (next + length p.gates) (run A v p.gates) (omega arith) (omega arith) (same-run A top u v p.gates s)))

  outs_length : (k i next : ℕ) → length (bits_outs S inst idx wh k i next) ≡ k
  unfolding bits_outs
  outs_length zero i next = refl
  outs_length (suc k) i next = ap suc (outs_length k (suc i) _)

  bits-mults : (M m : ℕ) → ((i next : ℕ) → i < m → key_bits inst + m ≤ next → muls_of (part_at S inst idx wh i next).gates ≡ M)
      → (k i next : ℕ) → i + k ≤ m → key_bits inst + m ≤ next → muls_of (bits_gates S inst idx wh k i next) ≡ k * M
  unfolding bits_gates past
  bits-mults M m c zero i next h t = omega arith
  bits-mults M m c (suc k) i next h t =
      let p = part_at S inst idx wh i next in
      muls-append p.gates _ ∙ omega (arith, c i next (omega arith) t, bits-mults M m c k (suc i) (next + length p.gates) (omega arith) (omega arith), suc-mul k M)

  -- G gates a bit, and a NOT for each whitening 1
  bits_gates_lem : (G m : ℕ) → length wh ≡ m * row_bits inst
      → ((i next : ℕ) → i < m → key_bits inst + m ≤ next → length (part_at S inst idx wh i next).gates ≡ ones (row_at (row_bits inst) i wh) + G)
      → (k i next : ℕ) → i + k ≡ m → key_bits inst + m ≤ next → length (bits_gates S inst idx wh k i next) ≡ ones (drop (i * row_bits inst) wh) + k * G
  unfolding bits_gates past ones
  bits_gates_lem G m e c zero i next h t =
      let q : i ≡ m = omega arith in
      let z : length wh ≤ i * row_bits inst = rw q (omega arith) in
      rw (drop_of_length-le wh z) (omega arith)
  bits_gates_lem G m e c (suc k) i next h t =
      let p = part_at S inst idx wh i next in
      length-append p.gates _
      ∙ omega (
        arith,
        c i next (omega arith) t,
        bits_gates_lem G m e c k (suc i) (next + length p.gates) (omega arith) (omega arith),
        suc-mul k G,
        row-ones (row_bits inst) i wh,
      )

  bits_valid : (m : ℕ) → ((i next : ℕ) → i < m → key_bits inst + m ≤ next → Sits next (part_at S inst idx wh i next))
      → (k i next : ℕ) → i + k ≤ m → key_bits inst + m ≤ next
      → GatesWired next (bits_gates S inst idx wh k i next) × Below (next + length (bits_gates S inst idx wh k i next)) (bits_outs S inst idx wh k i next)
  unfolding bits_gates bits_outs past
  bits_valid m c zero i next h t = (tt, tt)
  bits_valid m c (suc k) i next h t =
      let p = part_at S inst idx wh i next in
      let s = c i next (omega arith) t in
      let r = bits_valid m c k (suc i) (next + length p.gates) (omega arith) (omega arith) in
      let g = bits_gates S inst idx wh k (suc i) (next + length p.gates) in
      let e : next + length (p.gates ++ g) ≡ next + length p.gates + length g = simp length-append (omega arith) in
      let P : ℕ → Type 0 = λ n. Below n (bits_outs S inst idx wh (suc k) i next) in
      (wired_append next p.gates g s.wired r.0, subst P (sym e) (omega (arith, s.inside), r.1))

max_const : (d k i : ℕ) → max_of (list_of (λ (j : ℕ). d) (suc k) i) ≡ d
max_const d zero i = omega arith
max_const d (suc k) i = omega (arith, max_const d k (suc i))

-- ---- the theorems
module _ (S : ℕ → Split) (K : Splits S) (inst : ℕ) (c : Cost) (t : Known S inst c) (m : ℕ) (idx wh : List ℕ) (R : Rows inst m idx wh) where
  abbrev N : ℕ
  N = key_bits inst

  row_is : (i : ℕ) → i < m → length (row_at (row_bits inst) i idx) ≡ row_bits inst
  row_is i h = row-length (row_bits inst) i m idx R.indices h

  row_keys : (i : ℕ) → All (λ p. p < N) (row_at (row_bits inst) i idx)
  row_keys i = row-all (λ p. p < N) (row_bits inst) i idx (at_all (λ p. p < N) idx R.below)

  row_below : (i next : ℕ) → N + m ≤ next → All (λ p. p < next) (row_at (row_bits inst) i idx)
  row_below i next h = all_map {P = λ p. p < N} {Q = λ p. p < next} (row_at (row_bits inst) i idx) (λ p q. omega arith) (row_keys i)

  old_row : {X : Type 0} (A : Alg X) (u v : List X) (i : ℕ) → Same A (N + m) u v → All (Old A u v) (row_at (row_bits inst) i idx)
  old_row A u v i s = all_map {P = λ p. p < N} {Q = Old A u v} (row_at (row_bits inst) i idx) (λ p h. record { there = omega (arith, s.long); same = s.eq p (omega arith) }) (row_keys i)

  -- values: for every key and every enciphered record, what deciphering gives
  module _ (key rec : List ℕ) (I : Inputs inst m key rec) where
    abbrev U : List ℕ
    U = key ++ rec

    key_at : (p : ℕ) → p < N → (at val_alg U p ≡ get_or key p 0) × (get_or key p 0 ≤ 1)
    key_at p h = (get_or-append key rec 0 p (omega (arith, I.key_length)), I.key_bit p (omega (arith, I.key_length)))

    rec_at : (i : ℕ) → i < m → (at val_alg U (N + i) ≡ get_or rec i 0) × (get_or rec i 0 ≤ 1)
    rec_at i h = (rw (← I.key_length) (get_or-append-add key rec i 0), I.rec_bit i (omega (arith, I.rec_length)))

    index_at : (i j : ℕ) → i < m → j < row_bits inst → get_or (drop (i * row_bits inst) idx) j 0 < N
    index_at i j h l =
        rw (get_or-drop (i * row_bits inst) idx j 0) (R.below (i * row_bits inst + j) (omega (arith, R.indices, row_fits (row_bits inst) i m h)))

    white-at : (i j : ℕ) → i < m → j < row_bits inst → get_or (drop (i * row_bits inst) wh) j 0 ≤ 1
    white-at i j h l =
        rw (get_or-drop (i * row_bits inst) wh j 0) (R.white_bit (i * row_bits inst + j) (omega (arith, R.whitening, row_fits (row_bits inst) i m h)))

    long : (i : ℕ) (l : List ℕ) → length l ≡ m * row_bits inst → i < m → row_bits inst ≤ length (drop (i * row_bits inst) l)
    long i l e h = omega (arith, length-drop (i * row_bits inst) l, row_fits (row_bits inst) i m h)

    variables : (i : ℕ) → i < m → whites val_alg U (row_at (row_bits inst) i idx) (row_at (row_bits inst) i wh)
        ≡ tab (var key (drop (i * row_bits inst) idx) (drop (i * row_bits inst) wh)) (row_bits inst)
    unfolding row_at
    variables i h = whites-tab key U (drop (i * row_bits inst) idx) (drop (i * row_bits inst) wh) (row_bits inst)
        (long i idx R.indices h) (long i wh R.whitening h) (λ j l. white-at i j h l) (λ j l. key_at _ (index_at i j h l))

    one_bit : (i x : ℕ) (xs : List ℕ) → xs ≡ tab (var key (drop (i * row_bits inst) idx) (drop (i * row_bits inst) wh)) (row_bits inst) → x ≡ get_or rec i 0
        → (filter_of inst xs + x) % 2 ≡ decipher_bit inst key rec idx wh i
    unfolding decipher_bit row_bit
    one_bit i x xs e f = rw (e, f)

    pub decipher_right : eval (rows_net S inst idx wh m) (key ++ rec) ≡ tab (decipher_bit inst key rec idx wh) m
    unfolding rows_net part_at
    decipher_right =
        let lu : length U ≡ N + m = length-append key rec ∙ omega (arith, I.key_length, I.rec_length) in
        outs_list S inst idx wh val_alg U (N + m) m (decipher_bit inst key rec idx wh)
        (λ i next v h n s.
        let row = row_at (row_bits inst) i idx in
        let ws = row_at (row_bits inst) i wh in
        let b = row_below i next (omega (arith, s.long)) in
        let a : All (λ p. at val_alg U p ≤ 1) row = all_map row (λ p q. omega (arith, (key_at p q).0, (key_at p q).1)) (row_keys i) in
        let r : at val_alg v (N + i) ≡ get_or rec i 0 = s.eq (N + i) (omega arith) ∙ (rec_at i h).0 in
        subst (λ (z : ℕ). Carries val_alg v (bit_part S inst (N + i) next row ws) z)
        (bit_value S K inst c t (N + i) next row ws (row_is i h) b (omega (arith, s.long)) v n (whites val_alg U row ws)
        (nots_carry val_alg U v row ws next n (old_row val_alg U v i s))
        (whites-all val_alg (λ x. x ≤ 1) neg_bit U row ws a)
        (omega (arith, (rec_at i h).1))
        ∙ one_bit i (at val_alg v (N + i)) (whites val_alg U row ws) (variables i h) r)
        (bit_any S K inst c t (N + i) next row ws (row_is i h) b (omega (arith, s.long)) val_alg v n))
        m 0 (N + m) U (omega arith) (sym lu) (record { long = omega arith; eq = λ w h. refl })
        ∙ list_tab (decipher_bit inst key rec idx wh) m

  pub decipher_mults : mults (rows_net S inst idx wh m) ≡ m * c.mults
  unfolding rows_net part_at
  decipher_mults = bits-mults S inst idx wh c.mults m
      (λ i next h l. bit-muls S K inst c t (N + i) next (row_at (row_bits inst) i idx) (row_at (row_bits inst) i wh) (row_is i h) (row_below i next l) (omega arith))
      m 0 (N + m) (omega arith) (omega arith)

  row-nots : (i : ℕ) → i < m → length (nots (row_at (row_bits inst) i idx) (row_at (row_bits inst) i wh)) ≡ ones (row_at (row_bits inst) i wh)
  row-nots i h = nots-ones (row_at (row_bits inst) i idx) (row_at (row_bits inst) i wh)
      (row_is i h ∙ sym (row-length (row_bits inst) i m wh R.whitening h))
      (row-all (λ w. w ≤ 1) (row_bits inst) i wh (at_all (λ w. w ≤ 1) wh R.white_bit))

  pub decipher_gates : length (rows_net S inst idx wh m).gates ≡ ones wh + m * c.gates
  unfolding rows_net part_at
  decipher_gates = bits_gates_lem S inst idx wh c.gates m R.whitening
      (λ i next h l.
      bit-size S K inst c t (N + i) next (row_at (row_bits inst) i idx) (row_at (row_bits inst) i wh) (row_is i h) (row_below i next l) (omega arith)
      ∙ ap (λ (z : ℕ). z + c.gates) (row-nots i h))
      m 0 (N + m) (omega arith) (omega arith)
      ∙ ap (λ (z : ℕ). ones (drop z wh) + m * c.gates) (zero-mul (row_bits inst))

  pub decipher_outs : length (rows_net S inst idx wh m).outs ≡ m
  unfolding rows_net
  decipher_outs = outs_length S inst idx wh m 0 (N + m)

  pub decipher_valid : Valid (rows_net S inst idx wh m)
  unfolding rows_net part_at
  decipher_valid =
      let r = bits_valid S inst idx wh m
      (λ i next h l. bit_sits S K inst c t (N + i) next (row_at (row_bits inst) i idx) (row_at (row_bits inst) i wh) (row_is i h) (row_below i next l) (omega arith))
      m 0 (N + m) (omega arith) (omega arith) in
      record { wired = r.0; outs = r.1 }

  -- depth, of one bit or more
  pub decipher_depth : 1 ≤ m → depth (rows_net S inst idx wh m) ≡ c.depth
  unfolding rows_net part_at
  decipher_depth h1 =
      let u : List ℕ = replicate (N + m) 0 in
      let lu : length u ≡ N + m = length-replicate (N + m) 0 in
      ap max_of (outs_list S inst idx wh dep_alg u (N + m) m (λ (j : ℕ). c.depth)
      (λ i next v h n s.
      let row = row_at (row_bits inst) i idx in
      let ws = row_at (row_bits inst) i wh in
      let b = row_below i next (omega (arith, s.long)) in
      let a : All (λ p. at dep_alg u p ≡ 0) row = all_map row (λ p q. get_or-replicate (N + m) p 0 0 (omega arith)) (row_keys i) in
      subst (λ (z : ℕ). Carries dep_alg v (bit_part S inst (N + i) next row ws) z)
      (bit-depth S K inst c t (N + i) next row ws (row_is i h) b (omega (arith, s.long)) v n (whites dep_alg u row ws)
      (nots_carry dep_alg u v row ws next n (old_row dep_alg u v i s))
      (whites-all dep_alg (λ x. x ≡ 0) (λ x e. e) u row ws a)
      (s.eq (N + i) (omega arith) ∙ get_or-replicate (N + m) (N + i) 0 0 (omega arith)))
      (bit_any S K inst c t (N + i) next row ws (row_is i h) b (omega (arith, s.long)) dep_alg v n))
      m 0 (N + m) u (omega arith) (sym lu) (record { long = omega arith; eq = λ w h. refl }))
      ∙ top m h1
    where
      top : (m : ℕ) → 1 ≤ m → max_of (list_of (λ (j : ℕ). c.depth) m 0) ≡ c.depth
      top zero h = absurd (omega arith)
      top (suc k) h = max_const c.depth k 0
