-- Kreyvium's block of 64 bits, for its writer.
use Prim.Native.Nat.{ℕ, zero, suc, ◌-◌, ◌/◌, ◌%◌, ◌^◌, ◌≤◌}
use mathlib.Core.Path.{◌≡◌, refl, sym, ap, ap₂, ◌∙◌}
use mathlib.Core.List.{List, [], ◌∷◌, ◌++◌, append-nil}
use native.Mathlib.Omega.{arith}
use lib.ListN.{length, get_or, take, drop}
use lib.Seq.{length-take-le, drop-length}
use Rattle.instance.specs.Table.{sizes_of}
use Rattle.instance.specs.Keys.{Keyed, key_in}
use Rattle.instance.proofs.Keys.{key_size, key_bit_lem}
use Rattle.kreyvium.specs.Words.{bits, packed, bit, tops}
use Rattle.kreyvium.specs.Kreyvium.{stream_of}
use Rattle.kreyvium.proofs.Packed.{two_words}
use Rattle.filter.specs.Filter.{tab}

abbrev pub block_bit : ℕ → ℕ → ℕ
block_bit z i = bit z (63 - i)

pub tab-tops : (n z : ℕ) → tab (block_bit z) n ≡ tops n z
unfolding tab tops
tab-tops zero z = refl
tab-tops (suc n) z = ap (λ (t : List ℕ). t ++ bit z (63 - n) ∷ []) (tab-tops n z)

pub block_bit_lem : (z i : ℕ) → z / 2 ^ (63 - i) % 2 ≡ block_bit z i
unfolding bit
block_bit_lem z i = refl

-- a whole block leaves nothing of what stood there
pub whole : (z : ℕ) (out front : List ℕ) → length out ≡ 64 → front ≡ tops (length (take 64 out)) z → front ++ drop 64 out ≡ tops (length out) z
whole z out front l e =
    ap₂ ◌++◌
    (e ∙ ap (λ (n : ℕ). tops n z) (length-take-le 64 out (omega (arith, l)) ∙ sym l))
    (ap (λ (n : ℕ). drop n out) (sym l) ∙ drop-length out)
    ∙ append-nil (tops (length out) z)

module _ (key iv : List ℕ) (k : Keyed 6 key) (v : length iv ≡ 128) (d : (i : ℕ) → get_or iv i 0 ≤ 1) where
  -- key and IV lent as two words each
  pub stream-words : (k0 k1 v0 v1 n : ℕ) → k0 ≡ packed (take 64 (drop 0 (key_in 6 key))) → k1 ≡ packed (take 64 (drop 64 (key_in 6 key)))
      → v0 ≡ packed (take 64 (drop 0 iv)) → v1 ≡ packed (take 64 (drop 64 iv))
      → stream_of (bits 64 k0 ++ bits 64 k1) (bits 64 v0 ++ bits 64 v1) n ≡ stream_of (key_in 6 key) iv n
  unfolding sizes_of
  stream-words k0 k1 v0 v1 n e0 e1 f0 f1 =
      rw (e0, e1, f0, f1) (ap₂ (λ (x y : List ℕ). stream_of x y n) (two_words (key_in 6 key) (key_size 6 key k) (key_bit_lem 6 key k)) (two_words iv v d))
