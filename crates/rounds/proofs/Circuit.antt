-- Kreyvium's deciphering in the netlist's order of sums, over any algebra: bits, depths, meter cells.
use mathlib.Core.List.{List, [], ◌∷◌, map}
use Prim.Native.Nat.{ℕ, zero, suc}
use Rattle.netlist.specs.Net.{Alg}
use Rattle.kreyvium.specs.Kreyvium.{Registers, s_a, s_b, s_c, k0, v0, moved, loaded}
use Rattle.rounds.specs.Gates.{bit_of}

module _ {X : Type 0} (A : Alg X) where
  module _ (s : Registers X) where
    abbrev pub sum1 : X
    sum1 = A.xor (s_a A.none s 66) (s_a A.none s 93)

    abbrev pub sum2 : X
    sum2 = A.xor (s_b A.none s 162) (s_b A.none s 177)

    abbrev pub sum3 : X
    sum3 = A.xor (A.xor (s_c A.none s 243) (s_c A.none s 288)) (k0 A.none s)

    unfoldable pub gain1 : X
    gain1 = A.xor (A.xor (A.xor sum1 (A.and (s_a A.none s 91) (s_a A.none s 92))) (s_b A.none s 171)) (v0 A.none s)

    unfoldable pub gain2 : X
    gain2 = A.xor (A.xor sum2 (A.and (s_b A.none s 175) (s_b A.none s 176))) (s_c A.none s 264)

    unfoldable pub gain3 : X
    gain3 = A.xor (A.xor sum3 (A.and (s_c A.none s 286) (s_c A.none s 287))) (s_a A.none s 69)

    unfoldable pub out_a : X → X
    out_a x = A.xor (A.xor (A.xor sum1 sum2) sum3) x

  unfoldable pub round_a : Registers X → Registers X
  round_a s = moved A.none s (gain3 s) (gain1 s) (gain2 s)

  unfoldable pub rounds_a : ℕ → Registers X → Registers X
  rounds_a zero s = s
  rounds_a (suc n) s = rounds_a n (round_a s)

  unfoldable pub added_a : List X → Registers X → List X
  added_a [] s = []
  added_a (x ∷ e) s = out_a s x ∷ added_a e (round_a s)

  unfoldable pub ciphered_a : List X → List ℕ → List X → List X
  ciphered_a key iv e = added_a e (rounds_a 1152 (loaded A.zer A.one key (map (bit_of A.zer A.one) iv)))
