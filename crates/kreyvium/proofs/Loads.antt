-- The registers as key and IV are loaded.
use mathlib.Core.Path.{◌≡◌, refl, ap, sym, ◌∙◌}
use mathlib.Core.List.{List, [], ◌∷◌, ◌++◌, append_assoc}
use Prim.Native.Nat.{ℕ, ◌+◌, ◌/◌, ◌^◌, ◌<◌}
use lib.ListN.{length, take, drop, replicate, length-drop}
use lib.Pow.{shr_lt}
use lib.Seq.{drop-append-add, take-append-add}
use Rattle.kreyvium.specs.Words.{bits, reg}
use Rattle.kreyvium.proofs.Bits.{length-bits, bits-join, bits-drop}

-- 20 ones of the first word and 46 of the second, then a zero
ones : take 67 (bits 20 1048575 ++ bits 64 70368744177663) ≡ replicate 66 1 ++ (0 ∷ [])
unfolding bits
ones = refl

-- the third register; IV84..IV127 are the upper 44 bits of the IV's second word
pub load_ones : (v0 v1 : ℕ) → v1 < 2 ^ 64
    → reg 111 (record { lo = 18446726481523507200 + v1 / 2 ^ 20; hi = 70368744177663 })
    ≡ drop 84 (bits 64 v0 ++ bits 64 v1) ++ (replicate 66 1 ++ (0 ∷ []))
unfolding reg
load_ones v0 v1 h =
    let D = drop 20 (bits 64 v1) in
    let low : bits 64 (18446726481523507200 + v1 / 2 ^ 20) ≡ D ++ bits 20 1048575 =
    bits-join 44 20 (v1 / 2 ^ 20) 1048575 (shr_lt 44 20 h) ∙ ap (λ (l : List ℕ). l ++ bits 20 1048575) (sym (bits-drop 20 44 v1)) in
    let n : 44 ≡ length D = rw (length-drop, length-bits) refl in
    let o : drop 84 (bits 64 v0 ++ bits 64 v1) ≡ D =
    ap (λ (k : ℕ). drop (k + 20) (bits 64 v0 ++ bits 64 v1)) (sym (length-bits 64 v0)) ∙ drop-append-add (bits 64 v0) (bits 64 v1) 20 in
    ap (λ (l : List ℕ). take 111 (l ++ bits 64 70368744177663)) low
    ∙ ap (take 111) (append_assoc D (bits 20 1048575) (bits 64 70368744177663))
    ∙ ap (λ (k : ℕ). take (k + 67) (D ++ (bits 20 1048575 ++ bits 64 70368744177663))) n
    ∙ take-append-add D (bits 20 1048575 ++ bits 64 70368744177663) 67
    ∙ ap (λ (l : List ℕ). D ++ l) ones
    ∙ ap (λ (l : List ℕ). l ++ (replicate 66 1 ++ (0 ∷ []))) (sym o)
