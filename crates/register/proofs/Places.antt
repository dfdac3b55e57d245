-- The closed forms are the registers as the rounds move them.
use mathlib.Core.Path.{◌≡◌, refl, ap, sym, ◌∙◌}
use mathlib.Core.List.{List, [], ◌∷◌, ◌++◌, map}
use Prim.Native.Nat.{ℕ, zero, suc, ◌+◌, ◌-◌, ◌*◌, ◌%◌, ◌≤◌, ◌<◌}
use native.Mathlib.Omega.{arith}
use lib.ListN.{length, get_or, drop, replicate, length-drop, length-map, length-replicate, get_or-replicate, get_or-append}
use lib.Seq.{get_or-take, get_or-drop, get_or-append-add}
use Rattle.netlist.specs.Glue.{up_from}
use Rattle.netlist.proofs.Sim.{split}
use Rattle.netlist.proofs.Glued.{get_or-map_lt, up_from-at, up_from-length}
use Rattle.kreyvium.specs.Kreyvium.{push, k0, v0, moved, loaded}
use Rattle.rounds.specs.Gates.{bit_of, start_wires, move_wires}
use Rattle.rounds.proofs.Lists.{length_push, Sized}
use Rattle.rounds.proofs.Net.{start_sized}
use Rattle.register.specs.declared.wires.Five.{Five}
use Rattle.register.specs.declared.wires.Taps.{Taps}
use Rattle.register.specs.declared.wires.Register.{Register}
use Rattle.register.specs.declared.wires.Register.TheVariants.{A, B, C}
use Rattle.register.specs.InnerPlaces.{tail_at, registers_at, const_wire, start_c, entering, wire_of, five_of, taps_of, places_of, Read}
use Rattle.register.proofs.Cases.{wire_new, wire_old, c_iv, c_ones, c_zero}

get_d_push : (x : ℕ) (l : List ℕ) (j : ℕ) → j < length l → get_or (push x l) j 0 ≡ get_or (x ∷ l) j 0
unfolding push
get_d_push x l j h = get_or-take (length l) (x ∷ l) j 0 h

-- a register that f fills, from l on
unfoldable reg_at : (ℕ → ℕ) → List ℕ → ℕ → List ℕ
reg_at f l zero = l
reg_at f l (suc n) = push (f n) (reg_at f l n)

reg-length : (f : ℕ → ℕ) (l : List ℕ) (n : ℕ) → length (reg_at f l n) ≡ length l
unfolding reg_at
reg-length f l zero = refl
reg-length f l (suc n) = length_push (f n) (reg_at f l n) ∙ reg-length f l n

reg_new : (f : ℕ → ℕ) (l : List ℕ) (n j : ℕ) → j < length l → j < n → get_or (reg_at f l n) j 0 ≡ f (n - j - 1)
unfolding reg_at
reg_new f l zero j h q = absurd (omega arith)
reg_new f l (suc n) zero h q =
    let e : suc n - zero - 1 ≡ n = omega arith in
    get_d_push (f n) (reg_at f l n) zero (omega (arith, reg-length f l n)) ∙ ap f (sym e)
reg_new f l (suc n) (suc j) h q =
    let e : suc n - suc j - 1 ≡ n - j - 1 = omega arith in
    get_d_push (f n) (reg_at f l n) (suc j) (omega (arith, reg-length f l n)) ∙ reg_new f l n j (omega arith) (omega arith) ∙ ap f (sym e)

reg_old : (f : ℕ → ℕ) (l : List ℕ) (n j : ℕ) → j < length l → n ≤ j → get_or (reg_at f l n) j 0 ≡ get_or l (j - n) 0
unfolding reg_at
reg_old f l zero j h q = let e : j ≡ j - zero = omega arith in ap (λ (i : ℕ). get_or l i 0) e
reg_old f l (suc n) zero h q = absurd (omega arith)
reg_old f l (suc n) (suc j) h q =
    let e : j - n ≡ suc j - suc n = omega arith in
    get_d_push (f n) (reg_at f l n) (suc j) (omega (arith, reg-length f l n)) ∙ reg_old f l n j (omega arith) (omega arith) ∙ ap (λ (i : ℕ). get_or l i 0) e

-- a register that turns by one each round
unfoldable turned : List ℕ → ℕ → List ℕ
turned l zero = l
turned l (suc n) = push (get_or (turned l n) 127 0) (turned l n)

turned-length : (l : List ℕ) (n : ℕ) → length (turned l n) ≡ length l
unfolding turned
turned-length l zero = refl
turned-length l (suc n) = length_push _ (turned l n) ∙ turned-length l n

turned-at : (l : List ℕ) → length l ≡ 128 → (n j : ℕ) → j < 128 → get_or (turned l n) j 0 ≡ get_or l ((j + 127 * n) % 128) 0
unfolding turned
turned-at l h zero j q = let e : j ≡ (j + 127 * zero) % 128 = omega arith in ap (λ (i : ℕ). get_or l i 0) e
turned-at l h (suc n) zero q =
    let e : (127 + 127 * n) % 128 ≡ (zero + 127 * suc n) % 128 = omega arith in
    get_d_push _ (turned l n) zero (omega (arith, turned-length l n)) ∙ turned-at l h n 127 (omega arith) ∙ ap (λ (i : ℕ). get_or l i 0) e
turned-at l h (suc n) (suc j) q =
    let e : (j + 127 * n) % 128 ≡ (suc j + 127 * suc n) % 128 = omega arith in
    get_d_push _ (turned l n) (suc j) (omega (arith, turned-length l n)) ∙ turned-at l h n j (omega arith) ∙ ap (λ (i : ℕ). get_or l i 0) e

pub five_eq : {p p' q q' r r' s s' t t' : ℕ} → p ≡ p' → q ≡ q' → r ≡ r' → s ≡ s' → t ≡ t'
    → ◌≡◌ {A = Five} (record { p = p; q = q; r = r; s = s; t = t }) (record { p = p'; q = q'; r = r'; s = s'; t = t' })
five_eq a b c d e i = record { p = a i; q = b i; r = c i; s = d i; t = e i }

module _ (iv : List ℕ) (m : ℕ) where
  reg_a : (n : ℕ) → (registers_at iv m n).a ≡ reg_at (λ i. tail_at m i + 9) (start_wires iv m).a n
  unfolding registers_at move_wires moved reg_at
  reg_a zero = refl
  reg_a (suc n) = ap (push (tail_at m n + 9)) (reg_a n)

  reg_b : (n : ℕ) → (registers_at iv m n).b ≡ reg_at (λ i. tail_at m i + 3) (start_wires iv m).b n
  unfolding registers_at move_wires moved reg_at
  reg_b zero = refl
  reg_b (suc n) = ap (push (tail_at m n + 3)) (reg_b n)

  reg_c : (n : ℕ) → (registers_at iv m n).c ≡ reg_at (λ i. tail_at m i + 6) (start_wires iv m).c n
  unfolding registers_at move_wires moved reg_at
  reg_c zero = refl
  reg_c (suc n) = ap (push (tail_at m n + 6)) (reg_c n)

  reg_k : (n : ℕ) → (registers_at iv m n).k ≡ turned (start_wires iv m).k n
  unfolding registers_at move_wires moved turned
  reg_k zero = refl
  reg_k (suc n) = ap (λ (l : List ℕ). push (get_or l 127 0) l) (reg_k n)

  reg_v : (n : ℕ) → (registers_at iv m n).v ≡ turned (start_wires iv m).v n
  unfolding registers_at move_wires moved turned
  reg_v zero = refl
  reg_v (suc n) = ap (λ (l : List ℕ). push (get_or l 127 0) l) (reg_v n)

  module _ (h : length iv ≡ 128) where
    start_a : (i : ℕ) → i < 93 → get_or (start_wires iv m).a i 0 ≡ i
    unfolding start_wires loaded
    start_a i q = get_or-take 93 (up_from 0 128) i 0 q ∙ up_from-at 0 128 i (omega arith) ∙ omega arith

    iv_wire : (i : ℕ) → i < 128 → get_or (map (bit_of (128 + m) (129 + m)) iv) i 0 ≡ const_wire iv m i
    unfolding const_wire
    iv_wire i q = get_or-map_lt (bit_of (128 + m) (129 + m)) iv i 0 0 (omega arith)

    start_b : (i : ℕ) → i < 84 → get_or (start_wires iv m).b i 0 ≡ const_wire iv m i
    unfolding start_wires loaded
    start_b i q = get_or-take 84 (map (bit_of (128 + m) (129 + m)) iv) i 0 q ∙ iv_wire i (omega arith)

    abbrev from_iv : List ℕ
    from_iv = drop 84 (map (bit_of (128 + m) (129 + m)) iv)

    from_iv-length : length from_iv ≡ 44
    from_iv-length = omega (arith, length-drop 84 (map (bit_of (128 + m) (129 + m)) iv), length-map iv (bit_of (128 + m) (129 + m)))

    starts_c : (i : ℕ) → i < 111 → get_or (start_wires iv m).c i 0 ≡ start_c iv m i
    unfolding start_wires loaded
    starts_c i q =
        let ones : List ℕ = replicate 66 (129 + m) in
        let end : List ℕ = (128 + m) ∷ [] in
        split i 44
        (λ p. get_or-append from_iv (ones ++ end) 0 i (omega (arith, from_iv-length))
        ∙ get_or-drop 84 (map (bit_of (128 + m) (129 + m)) iv) i 0 ∙ iv_wire (84 + i) (omega arith) ∙ c_iv iv m i _ p refl)
        (λ p.
        let k = i - 44 in
        let e : i ≡ length from_iv + k = omega (arith, from_iv-length) in
        let t : get_or (from_iv ++ (ones ++ end)) i 0 ≡ get_or (ones ++ end) k 0 =
        ap (λ (z : ℕ). get_or (from_iv ++ (ones ++ end)) z 0) e ∙ get_or-append-add from_iv (ones ++ end) k 0 in
        split i 110
        (λ r. t ∙ get_or-append ones end 0 k (omega (arith, length-replicate 66 (129 + m))) ∙ get_or-replicate 66 k (129 + m) 0 (omega arith) ∙ c_ones iv m i p r)
        (λ r.
        let f : k ≡ length ones + 0 = omega (arith, length-replicate 66 (129 + m)) in
        t ∙ ap (λ (z : ℕ). get_or (ones ++ end) z 0) f ∙ get_or-append-add ones end 0 0 ∙ c_zero iv m i p r))

    z : Sized (start_wires iv m)
    z = start_sized iv m h

    place_a : (n j : ℕ) → j < 93 → wire_of A iv m n j ≡ get_or (registers_at iv m n).a j 0
    place_a n j q =
        let l = (start_wires iv m).a in
        let f : ℕ → ℕ = λ i. tail_at m i + 9 in
        split j n
        (λ p. sym (ap (λ (r : List ℕ). get_or r j 0) (reg_a n) ∙ reg_new f l n j (omega (arith, z.a)) p ∙ wire_new A iv m n j _ p refl))
        (λ p. sym (ap (λ (r : List ℕ). get_or r j 0) (reg_a n) ∙ reg_old f l n j (omega (arith, z.a)) p ∙ start_a (j - n) (omega arith) ∙ wire_old A iv m n j _ p refl))

    place_b : (n j : ℕ) → j < 84 → wire_of B iv m n j ≡ get_or (registers_at iv m n).b j 0
    place_b n j q =
        let l = (start_wires iv m).b in
        let f : ℕ → ℕ = λ i. tail_at m i + 3 in
        split j n
        (λ p. sym (ap (λ (r : List ℕ). get_or r j 0) (reg_b n) ∙ reg_new f l n j (omega (arith, z.b)) p ∙ wire_new B iv m n j _ p refl))
        (λ p. sym (ap (λ (r : List ℕ). get_or r j 0) (reg_b n) ∙ reg_old f l n j (omega (arith, z.b)) p ∙ wire_old B iv m n j _ p (start_b (j - n) (omega arith))))

    place_c : (n j : ℕ) → j < 111 → wire_of C iv m n j ≡ get_or (registers_at iv m n).c j 0
    place_c n j q =
        let l = (start_wires iv m).c in
        let f : ℕ → ℕ = λ i. tail_at m i + 6 in
        split j n
        (λ p. sym (ap (λ (r : List ℕ). get_or r j 0) (reg_c n) ∙ reg_new f l n j (omega (arith, z.c)) p ∙ wire_new C iv m n j _ p refl))
        (λ p. sym (ap (λ (r : List ℕ). get_or r j 0) (reg_c n) ∙ reg_old f l n j (omega (arith, z.c)) p ∙ wire_old C iv m n j _ p (starts_c (j - n) (omega arith))))

    place_k : (n : ℕ) → (127 + 127 * n) % 128 ≡ k0 0 (registers_at iv m n)
    unfolding start_wires loaded
    place_k n = sym (ap (λ (r : List ℕ). get_or r 127 0) (reg_k n) ∙ turned-at (up_from 0 128) (up_from-length 0 128) n 127 (omega arith) ∙ up_from-at 0 128 ((127 + 127 * n) % 128) (omega arith) ∙ omega arith)

    place_v : (n : ℕ) → const_wire iv m ((127 + 127 * n) % 128) ≡ v0 0 (registers_at iv m n)
    unfolding start_wires loaded
    place_v n =
        let l = map (bit_of (128 + m) (129 + m)) iv in
        sym (ap (λ (r : List ℕ). get_or r 127 0) (reg_v n) ∙ turned-at l (length-map iv (bit_of (128 + m) (129 + m)) ∙ h) n 127 (omega arith) ∙ iv_wire ((127 + 127 * n) % 128) (omega arith))

    -- what a round reads of a register, by its places
    pub fives : (r : Register) (n : ℕ) (x y : Five) → y ≡ places_of r
        → x.p ≡ wire_of r iv m n y.p → x.q ≡ wire_of r iv m n y.q → x.r ≡ wire_of r iv m n y.r → x.s ≡ wire_of r iv m n y.s → x.t ≡ wire_of r iv m n y.t
        → x ≡ five_of r (registers_at iv m n)
    fives A n x y e p q r s t = five_eq
        (p ∙ ap (λ (v : Five). wire_of A iv m n v.p) e ∙ place_a n 65 (omega arith))
        (q ∙ ap (λ (v : Five). wire_of A iv m n v.q) e ∙ place_a n 68 (omega arith))
        (r ∙ ap (λ (v : Five). wire_of A iv m n v.r) e ∙ place_a n 90 (omega arith))
        (s ∙ ap (λ (v : Five). wire_of A iv m n v.s) e ∙ place_a n 91 (omega arith))
        (t ∙ ap (λ (v : Five). wire_of A iv m n v.t) e ∙ place_a n 92 (omega arith))
    fives B n x y e p q r s t = five_eq
        (p ∙ ap (λ (v : Five). wire_of B iv m n v.p) e ∙ place_b n 68 (omega arith))
        (q ∙ ap (λ (v : Five). wire_of B iv m n v.q) e ∙ place_b n 77 (omega arith))
        (r ∙ ap (λ (v : Five). wire_of B iv m n v.r) e ∙ place_b n 81 (omega arith))
        (s ∙ ap (λ (v : Five). wire_of B iv m n v.s) e ∙ place_b n 82 (omega arith))
        (t ∙ ap (λ (v : Five). wire_of B iv m n v.t) e ∙ place_b n 83 (omega arith))
    fives C n x y e p q r s t = five_eq
        (p ∙ ap (λ (v : Five). wire_of C iv m n v.p) e ∙ place_c n 65 (omega arith))
        (q ∙ ap (λ (v : Five). wire_of C iv m n v.q) e ∙ place_c n 86 (omega arith))
        (r ∙ ap (λ (v : Five). wire_of C iv m n v.r) e ∙ place_c n 108 (omega arith))
        (s ∙ ap (λ (v : Five). wire_of C iv m n v.s) e ∙ place_c n 109 (omega arith))
        (t ∙ ap (λ (v : Five). wire_of C iv m n v.t) e ∙ place_c n 110 (omega arith))

taps_eq : {a a' b b' c c' : Five} {k k' v v' : ℕ} → a ≡ a' → b ≡ b' → c ≡ c' → k ≡ k' → v ≡ v'
    → ◌≡◌ {A = Taps} (record { a = a; b = b; c = c; k = k; v = v }) (record { a = a'; b = b'; c = c'; k = k'; v = v' })
taps_eq p q r s t i = record { a = p i; b = q i; c = r i; k = s i; v = t i }

-- and all that a round reads
pub taps_are : (iv : List ℕ) (m n k v : ℕ) (a b c : Five) → length iv ≡ 128
    → a ≡ five_of A (registers_at iv m n) → b ≡ five_of B (registers_at iv m n) → c ≡ five_of C (registers_at iv m n)
    → k ≡ (127 + 127 * n) % 128 → v ≡ const_wire iv m k → ◌≡◌ {A = Taps} (record { a = a; b = b; c = c; k = k; v = v }) (taps_of (registers_at iv m n))
taps_are iv m n k v a b c h ea eb ec ek ev =
    taps_eq ea eb ec (ek ∙ place_k iv m h n) (ev ∙ ap (const_wire iv m) ek ∙ place_v iv m h n)

-- where all of it entered, in a late round
pub late_wire : (r : Register) (iv : List ℕ) (m n j e x : ℕ) → 111 ≤ n → n < 1216 → Read j → e ≡ entering r → x ≡ 134 + m + 14 * n + e - 14 * (j + 1)
    → x ≡ wire_of r iv m n j
unfolding tail_at
late_wire r iv m n j e x h l b q g =
    let t : tail_at m (n - j - 1) + entering r ≡ wire_of r iv m n j = wire_new r iv m n j _ (omega arith) refl in
    omega arith
