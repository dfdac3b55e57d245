-- Depth: what entered n rounds ago or more is as deep as n rounds allow.
use mathlib.Core.Path.{◌≡◌, refl, ap₂, sym, ◌∙◌}
use mathlib.Core.List.{List, [], ◌∷◌, ◌++◌, map}
use Prim.Native.Nat.{ℕ, zero, suc, ◌+◌, ◌-◌, ◌/◌, ◌≤◌, ◌<◌, max}
use native.Mathlib.Omega.{arith}
use lib.ListN.{length, get_or, take, replicate, length-map, length-replicate, replicate-append-replicate}
use Rattle.netlist.specs.Net.{at, dep_alg, outs_of, depths, depth, max_of}
use Rattle.kreyvium.specs.Kreyvium.{Registers, push, k0, v0, moved, loaded}
use Rattle.rounds.proofs.Circuit.{gain1, gain2, gain3, out_a, round_a, rounds_a, added_a, ciphered_a}
use Rattle.rounds.specs.Gates.{bit_of, kreyvium_net}
use Rattle.rounds.proofs.Sound.{Every, All, every_push, every_replicate, all-loaded, kreyvium_outs}
use Rattle.rounds.proofs.Net.{net_circuit}

-- n rounds, rounded up to 82s
unfoldable allowed : ℕ → ℕ
allowed n = (n + 81) / 82

take_le : (n : ℕ) (l : List ℕ) (j : ℕ) → get_or (take n l) j 0 ≤ get_or l j 0
take_le zero l j = omega arith
take_le (suc n) [] j = omega arith
take_le (suc n) (x ∷ l) zero = omega arith
take_le (suc n) (x ∷ l) (suc j) = take_le n l j

-- place j of a register after n rounds
abbrev Within : ℕ → List ℕ → Type 0
Within n l = (j : ℕ) → get_or l j 0 ≤ allowed (n - j)

push-within : (n x : ℕ) (l : List ℕ) → x ≤ allowed (n + 1) → Within n l → Within (n + 1) (push x l)
unfolding push
push-within n x l h g zero = let e : n + 1 - zero ≡ n + 1 = omega arith in rw e (omega (arith, take_le (length l) (x ∷ l) zero))
push-within n x l h g (suc j) = let e : n + 1 - suc j ≡ n - j = omega arith in rw e (omega (arith, take_le (length l) (x ∷ l) (suc j), g j))

record Low (n : ℕ) (s : Registers ℕ) : Type 0 where
  pub a : Within n s.a
  pub b : Within n s.b
  pub c : Within n s.c
  pub k : Every (λ x. x ≡ 0) s.k
  pub v : Every (λ x. x ≡ 0) s.v

-- a product of what entered 82 rounds ago or more is one deeper
deeper : (n j x : ℕ) → 81 ≤ j → x ≤ allowed (n - j) → suc x ≤ allowed (n + 1)
unfolding allowed
deeper n j x q h = omega arith

older : (n j x : ℕ) → x ≤ allowed (n - j) → x ≤ allowed (n + 1)
unfolding allowed
older n j x h = omega arith

recent : (n j x : ℕ) → 65 ≤ j → x ≤ allowed (n - j) → x ≤ allowed (n - 65)
unfolding allowed
recent n j x q h = omega arith

most : {x y b : ℕ} → x ≤ b → y ≤ b → max x y ≤ b
most h g = omega arith

product : {x y b : ℕ} → suc x ≤ b → suc y ≤ b → suc (max x y) ≤ b
product h g = omega arith

module _ (n : ℕ) (s : Registers ℕ) (h : Low n s) where
  one : gain1 dep_alg s ≤ allowed (n + 1)
  unfolding gain1
  one =
      most (most (most (most (older n 65 _ (h.a 65)) (older n 92 _ (h.a 92)))
      (product (deeper n 90 _ (omega arith) (h.a 90)) (deeper n 91 _ (omega arith) (h.a 91)))) (older n 77 _ (h.b 77))) (omega (arith, h.v 127))

  two : gain2 dep_alg s ≤ allowed (n + 1)
  unfolding gain2
  two =
      most (most (most (older n 68 _ (h.b 68)) (older n 83 _ (h.b 83)))
      (product (deeper n 81 _ (omega arith) (h.b 81)) (deeper n 82 _ (omega arith) (h.b 82)))) (older n 86 _ (h.c 86))

  three : gain3 dep_alg s ≤ allowed (n + 1)
  unfolding gain3
  three =
      most (most (most (most (older n 65 _ (h.c 65)) (older n 110 _ (h.c 110))) (omega (arith, h.k 127)))
      (product (deeper n 108 _ (omega arith) (h.c 108)) (deeper n 109 _ (omega arith) (h.c 109)))) (older n 68 _ (h.a 68))

  round_low : Low (n + 1) (round_a dep_alg s)
  unfolding round_a moved
  round_low = record {
    a = push-within n (gain3 dep_alg s) s.a three h.a;
    b = push-within n (gain1 dep_alg s) s.b one h.b;
    c = push-within n (gain2 dep_alg s) s.c two h.c;
    k = every_push (λ x. x ≡ 0) (k0 0 s) s.k refl (h.k 127) h.k;
    v = every_push (λ x. x ≡ 0) (v0 0 s) s.v refl (h.v 127) h.v;
  }

  out_low : (x : ℕ) → x ≡ 0 → out_a dep_alg s x ≤ allowed (n - 65)
  unfolding out_a
  out_low x e =
      most (most (most (most (recent n 65 _ (omega arith) (h.a 65)) (recent n 92 _ (omega arith) (h.a 92)))
      (most (recent n 68 _ (omega arith) (h.b 68)) (recent n 83 _ (omega arith) (h.b 83))))
      (most (most (recent n 65 _ (omega arith) (h.c 65)) (recent n 110 _ (omega arith) (h.c 110))) (omega (arith, h.k 127)))) (omega arith)

rounds_low : (n i : ℕ) (s : Registers ℕ) → Low i s → Low (i + n) (rounds_a dep_alg n s)
unfolding rounds_a
rounds_low zero i s h = let e : i + 0 ≡ i = omega arith in rw e h
rounds_low (suc n) i s h =
    let e : i + 1 + n ≡ i + suc n = omega arith in rw e at (rounds_low n (i + 1) (round_a dep_alg s) (round_low i s h))

added_low : (e : List ℕ) (i : ℕ) (s : Registers ℕ) → Every (λ x. x ≡ 0) e → Low i s → (t : ℕ) → get_or (added_a dep_alg e s) t 0 ≤ allowed (i + t - 65)
unfolding added_a
added_low [] i s z h t = omega arith
added_low (x ∷ e) i s z h zero = let q : i + 0 ≡ i = omega arith in rw q (out_low i s h x (z 0))
added_low (x ∷ e) i s z h (suc t) =
    let q : i + 1 + t ≡ i + suc t = omega arith in
    rw q at (added_low e (i + 1) (round_a dep_alg s) (λ j. z (suc j)) (round_low i s h) t)

flat : (iv : List ℕ) → Every (λ x. x ≡ 0) (map (bit_of 0 0) iv)
unfolding bit_of
flat [] j = refl
flat (zero ∷ iv) zero = refl
flat (suc b ∷ iv) zero = refl
flat (b ∷ iv) (suc j) = flat iv j

start_low : (s : Registers ℕ) → All (λ x. x ≡ 0) s → Low 0 s
start_low s h = record {
  a = λ j. omega (arith, h.a j);
  b = λ j. omega (arith, h.b j);
  c = λ j. omega (arith, h.c j);
  k = h.k;
  v = h.v;
}

zeros : (n : ℕ) → Every (λ x. x ≡ 0) (replicate n 0)
zeros n = every_replicate (λ x. x ≡ 0) refl n 0 refl

depths_low : (iv : List ℕ) (m : ℕ) → length iv ≡ 128 → (t : ℕ) → get_or (outs_of dep_alg (kreyvium_net iv m) (replicate (128 + m) 0)) t 0 ≤ allowed (1087 + t)
unfolding ciphered_a
depths_low iv m hv t =
    let key : List ℕ = replicate 128 0 in
    let e : List ℕ = replicate m 0 in
    let ivs : List ℕ = map (bit_of 0 0) iv in
    let low = start_low (loaded 0 0 key ivs) (all-loaded (λ x. x ≡ 0) 0 0 key ivs refl refl refl (zeros 128) (flat iv)) in
    let b = added_low e 1152 (rounds_a dep_alg 1152 (loaded 0 0 key ivs)) (zeros m) (rounds_low 1152 0 (loaded 0 0 key ivs) low) t in
    let q : 1152 + t - 65 ≡ 1087 + t = omega arith in
    let lm : length e ≡ m = length-replicate {A = ℕ} m 0 in
    let c : outs_of dep_alg (kreyvium_net iv (length e)) (key ++ e) ≡ ciphered_a dep_alg key iv e = net_circuit dep_alg key iv e (length-replicate {A = ℕ} 128 0) hv in
    let d : outs_of dep_alg (kreyvium_net iv m) (replicate (128 + m) 0) ≡ ciphered_a dep_alg key iv e =
    ap₂ (λ (n : ℕ) (l : List ℕ). outs_of dep_alg (kreyvium_net iv n) l) (sym lm) (sym (replicate-append-replicate {A = ℕ} 128 m 0)) ∙ c in
    rw d (rw q at b)

-- THE DEPTH of output bit t: (1,087 + t) / 82, rounded up
pub kreyvium_depths : (iv : List ℕ) (m : ℕ) → length iv ≡ 128 → (t : ℕ) → t < m
    → get_or (outs_of dep_alg (kreyvium_net iv m) (replicate (kreyvium_net iv m).inputs 0)) t 0 ≤ (1087 + t + 81) / 82
unfolding kreyvium_net allowed
kreyvium_depths iv m h t q = depths_low iv m h t

max_le : (l : List ℕ) (b : ℕ) → ((t : ℕ) → t < length l → get_or l t 0 ≤ b) → max_of l ≤ b
max_le [] b h = omega arith
max_le (x ∷ l) b h = omega (arith, h 0 (omega arith), max_le l b (λ t q. h (suc t) (omega arith)))

later : (t m : ℕ) → t < m → (1087 + t + 81) / 82 ≤ (1086 + m + 81) / 82
later t m h = omega arith

-- the last of m bits bounds them all
pub kreyvium_depth : (iv : List ℕ) (m : ℕ) → length iv ≡ 128 → depth (kreyvium_net iv m) ≤ (1086 + m + 81) / 82
kreyvium_depth iv m h =
    let n = kreyvium_net iv m in
    max_le (outs_of dep_alg n (replicate n.inputs 0)) ((1086 + m + 81) / 82) (λ t q.
    let p : t < m = omega (arith, length-map n.outs (at dep_alg (depths n)), kreyvium_outs iv m) in
    omega (arith, kreyvium_depths iv m h t p, later t m p))
