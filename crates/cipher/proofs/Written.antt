-- What the calls write at the front of the result.
use Prim.Native.Nat.{ℕ, ◌≤◌}
use mathlib.Core.Path.{◌≡◌, ap, ap₂, sym, ◌∙◌}
use mathlib.Core.List.{List, ◌++◌}
use mathlib.Core.Bool.{Bool, true, false}
use native.Mathlib.Omega.{arith}
use lib.Dec.{eqb}
use lib.ListN.{length, take, drop}
use lib.Seq.{length-take-le}
use Rattle.answer.specs.Bits.{added}
use Rattle.answer.specs.Choose.{choose}
use Rattle.answer.specs.Fronts.{over}
use Rattle.answer.proofs.Over.{length_over, take-over, over-over}
use Rattle.filter.specs.Filter.{tab}
use Rattle.filter.proofs.Tab.{tab-length}
use Rattle.kreyvium.specs.Kreyvium.{stream_of}
use Rattle.kreyvium.proofs.Streams.{stream-length}
use Rattle.cipher.specs.Rows.{stream_bit}
use Rattle.cipher.specs.Cipher.{keystream_of, encipher_of}
use Rattle.answer.proofs.Added.{added-length}

pub keystream_length : (inst m : ℕ) (bits idx wh : List ℕ) → length (keystream_of inst m bits idx wh) ≡ m
unfolding keystream_of stream_of
keystream_length inst m bits idx wh = by (eqb inst 6)
  where
    by : (b : Bool) → length (choose b (stream_of bits wh m) (tab (stream_bit inst bits idx wh) m)) ≡ m
    by true = stream-length m _
    by false = tab-length (stream_bit inst bits idx wh) m

module _ (inst m : ℕ) (bits idx wh out front : List ℕ) (room : m ≤ length out)
    (e : front ≡ keystream_of inst (length (take m out)) bits idx wh) where
  abbrev ks : List ℕ
  ks = keystream_of inst m bits idx wh

  pub keystream_written : front ++ drop m out ≡ over ks out
  unfolding over
  keystream_written =
      ap₂ (λ (t : List ℕ) (n : ℕ). t ++ drop n out)
      (e ∙ ap (λ (n : ℕ). keystream_of inst n bits idx wh) (length-take-le m out room))
      (sym (keystream_length inst m bits idx wh))

  pub front_room : (rec : List ℕ) → length rec ≡ m → length rec ≤ length (front ++ drop m out)
  front_room rec l =
      rw keystream_written (omega (arith, length_over ks out (omega (arith, keystream_length inst m bits idx wh))))

  -- the record added to it
  pub encipher_written : (rec : List ℕ) → length rec ≡ m
      → over (added rec (take (length rec) (front ++ drop m out))) (front ++ drop m out) ≡ over (encipher_of inst m bits rec idx wh) out
  unfolding encipher_of
  encipher_written rec l =
      let n : length ks ≡ m = keystream_length inst m bits idx wh in
      let t : take (length rec) (over ks out) ≡ ks = ap (λ (k : ℕ). take k (over ks out)) (l ∙ sym n) ∙ take-over ks out in
      ap (λ (o : List ℕ). over (added rec (take (length rec) o)) o) keystream_written
      ∙ ap (λ (k : List ℕ). over (added rec k) (over ks out)) t
      ∙ over-over ks (added rec ks) out (omega (arith, added-length rec ks (omega arith)))
