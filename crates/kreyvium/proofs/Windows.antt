-- Registers of two words: what a window of 64 places shows of one, and what enters it.
use mathlib.Core.Path.{◌≡◌, refl, ap, sym, ◌∙◌, subst}
use mathlib.Core.List.{List, [], ◌∷◌, ◌++◌, append_assoc}
use Prim.Native.Nat.{ℕ, zero, suc, ◌+◌, ◌*◌, ◌-◌, ◌/◌, ◌%◌, ◌^◌, ◌≤◌, ◌<◌}
use native.Mathlib.Nat.{mul-mod_left, add-zero, add_comm}
use native.Mathlib.Omega.{arith}
use lib.Bits.{bit_or, bit_xor, or_shifted_r, xor_comm, xor_shifted}
use lib.ListN.{length, take, drop, get_or, replicate, length-append, length-drop}
use lib.Pow.{mod-pow-add, shl-shr, shr_lt}
use lib.Seq.{take-append-le, drop-append-le, take-append-add, drop-append-add, take_all, get_or-take, get_or-drop, get_or-append-add, take-take, take-add, drop-cons, drop-length, length-take-le}
use Rattle.kreyvium.specs.declared.Words.{Words}
use Rattle.kreyvium.specs.Kreyvium.{push}
use Rattle.kreyvium.specs.Words.{bits, bit, reg}
use Rattle.kreyvium.specs.Early.{later}
use Rattle.kreyvium.proofs.Bits.{length-bits, bits_low, bits-join, bits-take, bits-drop, get_d_bits, bit_xor_lem, odd_both}

-- ---- a window of two words
upper : (hi o w : ℕ) → hi * 2 ^ w % 2 ^ (o + w) ≡ (hi % 2 ^ o) * 2 ^ w
upper hi o w =
    mod-pow-add (hi * 2 ^ w) o w
    ∙ ap (λ (x : ℕ). (x % 2 ^ o) * 2 ^ w + hi * 2 ^ w % 2 ^ w) (shl-shr hi w)
    ∙ ap (λ (x : ℕ). (hi % 2 ^ o) * 2 ^ w + x) (mul-mod_left hi (2 ^ w))
    ∙ add-zero _

either : (lo hi o w : ℕ) → lo < 2 ^ (w + o) → bit_or (lo / 2 ^ o) (hi * 2 ^ w % 2 ^ (o + w)) ≡ (hi % 2 ^ o) * 2 ^ w + lo / 2 ^ o
either lo hi o w h = ap (bit_or (lo / 2 ^ o)) (upper hi o w) ∙ or_shifted_r (hi % 2 ^ o) w (lo / 2 ^ o) (shr_lt w o h)

-- nothing stands in both, so that they may be added as well
added : (lo hi o w : ℕ) → lo < 2 ^ (w + o)
    → bit_xor (lo / 2 ^ o) (hi * 2 ^ w % 2 ^ (o + w)) ≡ bit_or (lo / 2 ^ o) (hi * 2 ^ w % 2 ^ (o + w))
added lo hi o w h =
    ap (bit_xor (lo / 2 ^ o)) (upper hi o w)
    ∙ xor_comm (lo / 2 ^ o) ((hi % 2 ^ o) * 2 ^ w)
    ∙ xor_shifted (hi % 2 ^ o) w (lo / 2 ^ o) (shr_lt w o h)
    ∙ sym (either lo hi o w h)

joined : (lo hi o w m : ℕ) → lo < 2 ^ (o + w) → o ≤ m
    → bits (o + w) (bit_or (lo / 2 ^ o) (hi * 2 ^ w % 2 ^ (o + w))) ≡ take (o + w) (drop o (bits (o + w) lo ++ bits m hi))
joined lo hi o w m h g =
    let c : lo < 2 ^ (w + o) = rw (add_comm w o) h in
    let part = bits w (lo / 2 ^ o) in
    ap (bits (o + w)) (either lo hi o w c)
    ∙ ap (λ (n : ℕ). bits n ((hi % 2 ^ o) * 2 ^ w + lo / 2 ^ o)) (add_comm o w)
    ∙ bits-join w o (lo / 2 ^ o) (hi % 2 ^ o) (shr_lt w o c)
    ∙ ap (λ (l : List ℕ). part ++ l) (bits_low o o hi (omega arith) ∙ sym (bits-take m o hi g))
    ∙ sym (take-append-add part (bits m hi) o)
    ∙ ap (λ (n : ℕ). take (n + o) (part ++ bits m hi)) (length-bits w (lo / 2 ^ o))
    ∙ ap (λ (n : ℕ). take n (part ++ bits m hi)) (add_comm w o)
    ∙ ap (λ (l : List ℕ). take (o + w) (l ++ bits m hi)) (sym (bits-drop o w lo))
    ∙ ap (take (o + w)) (sym (drop-append-le o (bits (o + w) lo) (bits m hi) (rw length-bits (omega arith))))

-- all 128 places of two words
abbrev both : Words → List ℕ
both w = bits 64 w.lo ++ bits 64 w.hi

length_both : (w : Words) → length (both w) ≡ 128
length_both w = simp (length-append, length-bits)

pub reg-all : (w : Words) → reg 128 w ≡ bits 64 w.lo ++ bits 64 w.hi
unfolding reg
reg-all w = take_all 128 (both w) (omega (arith, length_both w))

pub window_bits : (w : Words) (o : ℕ) → w.lo < 2 ^ 64 → o < 64
    → bits 64 (bit_or (w.lo / 2 ^ o) (w.hi * 2 ^ (64 - o) % 2 ^ 64)) ≡ take 64 (drop o (reg 128 w))
window_bits w o h p =
    let lo = w.lo in
    let hi = w.hi in
    let m = 64 - o in
    let e : o + m ≡ 64 = omega arith in
    subst (λ (n : ℕ). lo < 2 ^ n → bits n (bit_or (lo / 2 ^ o) (hi * 2 ^ m % 2 ^ n)) ≡ take n (drop o (bits n lo ++ bits 64 hi)))
    e (λ a. joined lo hi o m 64 a (omega arith)) h
    ∙ ap (λ (l : List ℕ). take 64 (drop o l)) (sym (reg-all w))

-- a bit of a window
window_at : (r o i : ℕ) (w : Words) → bits 64 r ≡ take 64 (drop o (reg 128 w)) → i < 64 → bit r i ≡ get_or (drop o (reg 128 w)) i 0
window_at r o i w e k =
    sym (get_d_bits 64 r i k) ∙ ap (λ (l : List ℕ). get_or l i 0) e ∙ get_or-take 64 (drop o (reg 128 w)) i 0 k

-- the same of what lo and hi give to it
parts_at : (w : Words) (o i : ℕ) → w.lo < 2 ^ 64 → o < 64 → i < 64
    → (bit (w.lo / 2 ^ o) i + bit (w.hi * 2 ^ (64 - o) % 2 ^ 64) i) % 2 ≡ get_or (drop o (reg 128 w)) i 0
parts_at w o i h p k =
    let lo = w.lo in
    let hi = w.hi in
    let m = 64 - o in
    let e : o + m ≡ 64 = omega arith in
    let f : m + o ≡ 64 = omega arith in
    let x : bit_xor (lo / 2 ^ o) (hi * 2 ^ m % 2 ^ 64) ≡ bit_or (lo / 2 ^ o) (hi * 2 ^ m % 2 ^ 64) =
    subst (λ (n : ℕ). bit_xor (lo / 2 ^ o) (hi * 2 ^ m % 2 ^ n) ≡ bit_or (lo / 2 ^ o) (hi * 2 ^ m % 2 ^ n)) e (added lo hi o m (rw f h)) in
    sym (bit_xor_lem (lo / 2 ^ o) (hi * 2 ^ m % 2 ^ 64) i)
    ∙ ap (λ (y : ℕ). bit y i) x
    ∙ window_at _ o i w (window_bits w o h p) k

pub windows_at : (w : Words) (o p i : ℕ) → w.lo < 2 ^ 64 → o < 64 → p < 64 → i < 64
    → bit (bit_xor (bit_xor (w.lo / 2 ^ o) (w.lo / 2 ^ p)) (bit_xor (w.hi * 2 ^ (64 - o) % 2 ^ 64) (w.hi * 2 ^ (64 - p) % 2 ^ 64))) i
    ≡ (get_or (drop o (reg 128 w)) i 0 + get_or (drop p (reg 128 w)) i 0) % 2
windows_at w o p i h q r k =
    let a = w.lo / 2 ^ o in
    let b = w.lo / 2 ^ p in
    let c = w.hi * 2 ^ (64 - o) % 2 ^ 64 in
    let d = w.hi * 2 ^ (64 - p) % 2 ^ 64 in
    four_sums (bit a i) (bit b i) (bit c i) (bit d i) (bit_xor_lem (bit_xor a b) (bit_xor c d) i) (bit_xor_lem a b i) (bit_xor_lem c d i) (parts_at w o i h q k) (parts_at w p i h r k)
  where
    regroup : (a b c d : ℕ) → a + b + (c + d) ≡ a + c + (b + d)
    regroup a b c d = omega arith

    four_sums : {x y z g f : ℕ} (a b c d : ℕ) → x ≡ (y + z) % 2 → y ≡ (a + b) % 2 → z ≡ (c + d) % 2 → (a + c) % 2 ≡ g → (b + d) % 2 ≡ f → x ≡ (g + f) % 2
    four_sums {y = y} {z = z} {g = g} {f = f} a b c d e1 e2 e3 e4 e5 =
        e1
        ∙ odd_both y z (a + b) (c + d) e2 e3
        ∙ ap (λ (n : ℕ). n % 2) (regroup a b c d)
        ∙ sym (odd_both g f (a + c) (b + d) (sym e4) (sym e5))

-- ---- registers
pub length-reg : (n : ℕ) (w : Words) → n ≤ 128 → length (reg n w) ≡ n
unfolding reg
length-reg n w h = length-take-le n (both w) (omega (arith, length_both w))

reg_at : (n p : ℕ) (w : Words) → p < n → n ≤ 128 → get_or (reg n w) p 0 ≡ get_or (reg 128 w) p 0
unfolding reg
reg_at n p w h g = get_or-take n (both w) p 0 h ∙ sym (get_or-take 128 (both w) p 0 (omega arith))

later-at : (i o : ℕ) (r : List ℕ) → get_or (later i r) (63 + o) 0 ≡ get_or r (i + o) 0
unfolding later
later-at i o r = get_or-append-add (replicate 63 0) (drop i r) o 0 ∙ get_or-drop i r o 0

-- what stands at place p in the round of place i, which n rounds come before
pub later_tap : (n i p : ℕ) (r : List ℕ) → n + i ≡ 63 → 63 ≤ p → get_or (later i r) p 0 ≡ get_or r (p - n) 0
later_tap n i p r q h =
    let e : p ≡ 63 + (p - 63) = omega arith in
    let f : i + (p - 63) ≡ p - n = omega arith in
    ap (λ (j : ℕ). get_or (later i r) j 0) e ∙ later-at i (p - 63) r ∙ ap (λ (j : ℕ). get_or r j 0) f

-- what a window from place o on shows, to the round of place i: what will stand at place 63 + o
pub shown : (o p n i : ℕ) (w : Words) → p ≡ 63 + o → o + 64 ≤ n → n ≤ 128 → i < 64
    → get_or (drop o (reg 128 w)) i 0 ≡ get_or (later i (reg n w)) p 0
shown o p n i w q h g k =
    get_or-drop o (reg 128 w) i 0
    ∙ ap (λ (j : ℕ). get_or (reg 128 w) j 0) (add_comm o i)
    ∙ sym (reg_at n (i + o) w (omega arith) g)
    ∙ sym (later-at i o (reg n w))
    ∙ ap (λ (j : ℕ). get_or (later i (reg n w)) j 0) (sym q)

pub seen : (r o p n i : ℕ) (w : Words) → bits 64 r ≡ take 64 (drop o (reg 128 w)) → p ≡ 63 + o → o + 64 ≤ n → n ≤ 128 → i < 64
    → bit r i ≡ get_or (later i (reg n w)) p 0
seen r o p n i w e q h g k = window_at r o i w e k ∙ shown o p n i w q h g k

-- the bit that leaves K* or IV*
pub leaves : (i : ℕ) (w : Words) → i < 64 → get_or (later i (reg 128 w)) 127 0 ≡ bit w.hi i
leaves i w h =
    later-at i 64 (reg 128 w)
    ∙ ap (λ (l : List ℕ). get_or l (i + 64) 0) (reg-all w)
    ∙ ap (λ (j : ℕ). get_or (both w) j 0) e
    ∙ get_or-append-add (bits 64 w.lo) (bits 64 w.hi) i 0
    ∙ get_d_bits 64 w.hi i h
  where
    e : i + 64 ≡ length (bits 64 w.lo) + i
    e = rw length-bits (omega arith)

-- ---- a register that the bits of x have entered from place 63 down to place i
unfoldable pub got : ℕ → ℕ → ℕ → Words → List ℕ
got i n x w = take n (drop i (bits 64 x) ++ reg 128 w)

pub got_none : (n x : ℕ) (w : Words) → n ≤ 128 → reg n w ≡ got 64 n x w
unfolding got reg
got_none n x w h =
    let e : drop 64 (bits 64 x) ≡ [] = ap (λ (m : ℕ). drop m (bits 64 x)) (sym (length-bits 64 x)) ∙ drop-length (bits 64 x) in
    rw e (sym (take-take n 128 (both w) h))

push-take : (x n : ℕ) (l : List ℕ) → n ≤ length l → push x (take n l) ≡ take n (x ∷ l)
unfolding push
push-take x zero l h = refl
push-take x (suc n) l h =
    rw (length-take-le (suc n) l h) (ap (λ (r : List ℕ). x ∷ r) (take-take n (suc n) l (omega arith)))

pub got-more : (i n x b : ℕ) (w : Words) → i < 64 → n ≤ 128 → b ≡ bit x i → push b (got (suc i) n x w) ≡ got i n x w
unfolding got
got-more i n x b w h g e =
    push-take b n (drop (suc i) (bits 64 x) ++ reg 128 w) (rw (length-append, length-reg 128 w (omega arith)) (omega arith))
    ∙ ap (λ (c : ℕ). take n (c ∷ (drop (suc i) (bits 64 x) ++ reg 128 w))) (e ∙ sym (get_d_bits 64 x i h))
    ∙ ap (λ (l : List ℕ). take n (l ++ reg 128 w)) (sym (drop-cons (bits 64 x) i 0 (rw length-bits h)))

pub got-first : (n x : ℕ) (w : Words) → n ≤ 128 → push (bit x 63) (reg n w) ≡ got 63 n x w
got-first n x w h = ap (push (bit x 63)) (got_none n x w h) ∙ got-more 63 n x (bit x 63) w (omega arith) h refl

pub got-all : (n x : ℕ) (w : Words) → n ≤ 128 → got 0 n x w ≡ reg n (record { lo = x; hi = w.lo })
unfolding got reg
got-all n x w h =
    ap (λ (l : List ℕ). take n (bits 64 x ++ l)) (reg-all w)
    ∙ ap (take n) (sym (append_assoc (bits 64 x) (bits 64 w.lo) (bits 64 w.hi)))
    ∙ take-append-le n (bits 64 x ++ bits 64 w.lo) (bits 64 w.hi) (simp (length-append, length-bits) h)

-- two windows make the register that one bit has entered
pub got-one : (n x a b : ℕ) (w : Words) → n ≤ 128
    → bits 64 a ≡ take 64 (drop 63 (reg 128 (record { lo = x; hi = w.lo })))
    → bits 64 b ≡ take 64 (drop 63 (reg 128 w))
    → reg n (record { lo = a; hi = b }) ≡ push (bit x 63) (reg n w)
unfolding reg got
got-one n x a b w h ea eb =
    let X = drop 63 (bits 64 x) in
    let L = bits 64 w.lo in
    let H = bits 64 w.hi in
    let M = X ++ (L ++ H) in
    let first : 1 ≡ length X = rw (length-drop, length-bits) refl in
    let low : bits 64 a ≡ take 64 M =
    ea
    ∙ ap (λ (l : List ℕ). take 64 (drop 63 l)) (reg-all (record { lo = x; hi = w.lo }))
    ∙ ap (take 64) (drop-append-le 63 (bits 64 x) L (rw length-bits (omega arith)))
    ∙ sym (take-append-le 64 (X ++ L) H (rw (length-append, length-drop, length-bits 64 x, length-bits 64 w.lo) (omega arith)))
    ∙ ap (take 64) (append_assoc X L H) in
    let high : bits 64 b ≡ take 64 (drop 64 M) =
    eb
    ∙ ap (λ (l : List ℕ). take 64 (drop 63 l)) (reg-all w)
    ∙ ap (take 64) (sym (drop-append-add X (L ++ H) 63))
    ∙ ap (λ (k : ℕ). take 64 (drop (k + 63) M)) (sym first) in
    ap (λ (l : List ℕ). take n (l ++ bits 64 b)) low
    ∙ ap (λ (l : List ℕ). take n (take 64 M ++ l)) high
    ∙ ap (take n) (sym (take-add 64 64 M))
    ∙ take-take n 128 M h
    ∙ ap (λ (l : List ℕ). take n (X ++ l)) (sym (reg-all w))
    ∙ sym (got-first n x w h)
