-- What the writers of the keystream are given of an accepted call.
use Prim.Native.Nat.{ℕ, ◌≤◌}
use mathlib.Core.Path.{◌≡◌, refl, ap, sym, ◌∙◌}
use mathlib.Core.List.{List}
use native.Mathlib.Omega.{arith}
use lib.ListN.{length, get_or}
use borrow.Author.Tests.{ne_eqb}
use Rattle.answer.proofs.Judges.{bits-within}
use Rattle.instance.specs.Table.{white_bits}
use Rattle.instance.specs.Wired.{Wired}
use Rattle.instance.specs.Keys.{Keyed, key_in}
use Rattle.instance.proofs.Judged.{row_small}
use Rattle.filter.specs.Filter.{tab}
use Rattle.kreyvium.specs.Kreyvium.{stream_of}
use Rattle.cipher.specs.Rows.{stream_bit}
use Rattle.cipher.specs.Cipher.{keystream_of}
use Rattle.cipher.specs.Inner.{RowsLent}

-- the rows of instances 1 to 5
pub rows_lent : (inst m : ℕ) (idx wh : List ℕ) → Wired inst m idx wh → (inst ≡ 6 → ⊥) → RowsLent inst (length idx) 1394 m
rows_lent inst m idx wh s h = record { fits = row_small inst; few = s.few; indices = omega (arith, s.indices) }

-- each has its whitening
pub whitening_lent : (inst m : ℕ) (idx wh : List ℕ) → Wired inst m idx wh → (inst ≡ 6 → ⊥) → length wh ≡ length idx
unfolding white_bits
whitening_lent inst m idx wh s h = s.whitening ∙ rw (ne_eqb inst 6 h) (sym s.indices)

-- Kreyvium's IV
pub iv-lent : (inst m : ℕ) (idx wh : List ℕ) → Wired inst m idx wh → inst ≡ 6 → (m ≤ 64) × (length wh ≡ 128) × ((i : ℕ) → get_or wh i 0 ≤ 1)
unfolding white_bits
iv-lent inst m idx wh s e = (s.few, s.whitening ∙ ap (λ (i : ℕ). white_bits i m) e, bits-within wh s.white_bit)

-- and its key
pub key_lent : (inst : ℕ) (key : List ℕ) → Keyed inst key → inst ≡ 6 → Keyed 6 key
key_lent inst key k e = rw e at k

-- which of the two keystreams it is
pub stream_of_lem : (inst m : ℕ) (bits idx wh : List ℕ) → inst ≡ 6 → stream_of bits wh m ≡ keystream_of inst m bits idx wh
unfolding keystream_of
stream_of_lem inst m bits idx wh e = rw e refl

pub stream_six : (inst m : ℕ) (key idx wh : List ℕ) → inst ≡ 6 → stream_of (key_in 6 key) wh m ≡ keystream_of inst m (key_in inst key) idx wh
stream_six inst m key idx wh e = ap (λ (i : ℕ). stream_of (key_in i key) wh m) (sym e) ∙ stream_of_lem inst m (key_in inst key) idx wh e

pub rows_of : (inst m : ℕ) (bits idx wh : List ℕ) → (inst ≡ 6 → ⊥) → tab (stream_bit inst bits idx wh) m ≡ keystream_of inst m bits idx wh
unfolding keystream_of
rows_of inst m bits idx wh h = rw (ne_eqb inst 6 h) refl
