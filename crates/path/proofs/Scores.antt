-- The emitted netlist gives what deciphering gives, and the score from the enciphered record is the score from the plain one:
-- for every instance, wiring, key and record of bits, over the definitions that promises cite.
use Prim.Native.Nat.{ℕ, zero, suc, ◌+◌, ◌%◌, ◌<◌, ◌≤◌}
use mathlib.Core.Path.{◌≡◌, sym, ap, ◌∙◌}
use mathlib.Core.List.{List, [], ◌∷◌, ◌++◌}
use native.Mathlib.Omega.{arith}
use lib.ListN.{length, get_or, length-append}
use lib.Seq.{ext_get_or}
use Rattle.answer.specs.Bits.{added}
use Rattle.answer.proofs.Judges.{bits-within}
use Rattle.answer.proofs.Added.{added-length, added-at, added_twice, added-bits}
use Rattle.netlist.specs.Net.{Net, eval}
use Rattle.netlist.specs.Words.{inputs_of, words, net_of}
use Rattle.netlist.proofs.Words.{net_of-words}
use Rattle.instance.specs.Table.{sizes_of, key_bits}
use Rattle.instance.specs.Wired.{Wired, Bits}
use Rattle.instance.specs.Keys.{Keyed, key_in}
use Rattle.instance.proofs.Keys.{key_size, key_bit_lem}
use Rattle.filter.specs.Filter.{tab}
use Rattle.filter.proofs.Tab.{tab-length, tab-at}
use Rattle.wiring.specs.Rows.{Inputs, decipher_bit}
use Rattle.wiring.proofs.Claims.{rows_right}
use Rattle.rounds.proofs.Values.{kreyvium_right}
use Rattle.cipher.specs.Rows.{stream_bit}
use Rattle.cipher.specs.Cipher.{keystream_of, encipher_of}
use Rattle.cipher.proofs.Accepted.{stream_of_lem, rows_of}
use Rattle.cipher.proofs.Written.{keystream_length}
use Rattle.glue.specs.Glue.{glued_words, Fit}
use Rattle.glue.proofs.Gluing.{glued_evaluates}
use Rattle.emit.specs.Emit.{decipher_net}
use Rattle.emit.proofs.Accepted.{net_kreyvium, net_rows, by_six, iv-lent, wiring_of}
use Rattle.emit.proofs.Emission.{emitted_inputs}

-- the bits of a key and a record are the inputs of the deciphering netlist
pub inputs_of_lem : (inst m : ℕ) (key rec : List ℕ) → Keyed inst key → Bits m rec → Inputs inst m (key_in inst key) rec
inputs_of_lem inst m key rec k b =
    record { key_length = key_size inst key k; rec_length = b.size; key_bit = λ j h. key_bit_lem inst key k j; rec_bit = b.bit }

-- a table of keystream bits added to a record
added-tab : (f : ℕ → ℕ) (rec : List ℕ) (m : ℕ) → length rec ≡ m → added rec (tab f m) ≡ tab (λ i. (f i + get_or rec i 0) % 2) m
added-tab f rec m e =
    let l : length (added rec (tab f m)) ≡ m = added-length rec (tab f m) (omega (arith, tab-length f m)) ∙ e in
    ext_get_or 0 (added rec (tab f m)) (tab (λ i. (f i + get_or rec i 0) % 2) m) (l ∙ sym (tab-length (λ i. (f i + get_or rec i 0) % 2) m))
    (λ i h.
    let q : i < m = omega arith in
    let u : (get_or rec i 0 + f i) % 2 ≡ (f i + get_or rec i 0) % 2 = omega arith in
    added-at rec (tab f m) i (omega arith) (omega (arith, tab-length f m))
    ∙ ap (λ (k : ℕ). (get_or rec i 0 + k) % 2) (tab-at f m i q)
    ∙ u
    ∙ sym (tab-at (λ i. (f i + get_or rec i 0) % 2) m i q))

module _ (inst m : ℕ) (idx wh : List ℕ) (l : Wired inst m idx wh) where
  -- Evaluated on a key and a record, the netlist gives what deciphering gives.
  pub emitted_evaluates : (key rec : List ℕ) → Inputs inst m key rec → eval (decipher_net inst m idx wh) (key ++ rec) ≡ encipher_of inst m key rec idx wh
  unfolding encipher_of decipher_bit stream_bit sizes_of
  emitted_evaluates key rec g =
      by_six inst
      (λ e.
      ap (λ (n : Net). eval n (key ++ rec)) (net_kreyvium inst m idx wh e)
      ∙ kreyvium_right key wh rec m (g.key_length ∙ ap key_bits e) (iv-lent inst m idx wh l e) g.rec_length (bits-within key g.key_bit) (bits-within wh l.white_bit) (bits-within rec g.rec_bit)
      ∙ ap (added rec) (stream_of_lem inst m key idx wh e))
      (λ n.
      ap (λ (n : Net). eval n (key ++ rec)) (net_rows inst m idx wh n)
      ∙ rows_right inst m idx wh l.least (wiring_of inst m idx wh l n).high (wiring_of inst m idx wh l n).rows key rec g
      ∙ sym (added-tab (stream_bit inst key idx wh) rec m g.rec_length)
      ∙ ap (added rec) (rows_of inst m key idx wh n))

-- bits of two lists end to end
pub bits-both : (a b : List ℕ) → ((k : ℕ) → k < length a → get_or a k 0 ≤ 1) → ((k : ℕ) → k < length b → get_or b k 0 ≤ 1)
    → (k : ℕ) → k < length (a ++ b) → get_or (a ++ b) k 0 ≤ 1
bits-both [] b f g k h = g k h
bits-both (x ∷ a) b f g zero h = f 0 (omega arith)
bits-both (x ∷ a) b f g (suc k) h = bits-both a b (λ i l. f (suc i) (omega arith)) g k (omega arith)

module _ (inst m : ℕ) (idx wh : List ℕ) (l : Wired inst m idx wh) (key rec : List ℕ) (g : Inputs inst m key rec) where
  -- key and record are the inputs of the deciphering netlist
  pub both_count : length (key ++ rec) ≡ inputs_of (words (decipher_net inst m idx wh))
  both_count = length-append key rec ∙ omega (arith, g.key_length, g.rec_length, emitted_inputs inst m idx wh l)

  -- the enciphered record is as long as the record, and of bits
  pub encipher_length : length (encipher_of inst m key rec idx wh) ≡ m
  unfolding encipher_of
  encipher_length = added-length rec _ (omega (arith, g.rec_length, keystream_length inst m key idx wh)) ∙ g.rec_length

  pub encipher_inputs : Inputs inst m key (encipher_of inst m key rec idx wh)
  unfolding encipher_of
  encipher_inputs =
      record {
        key_length = g.key_length;
        rec_length = encipher_length;
        key_bit = g.key_bit;
        rec_bit = λ j q. added-bits rec (keystream_of inst m key idx wh) j;
      }

  -- A scoring netlist glued behind the deciphering netlist answers on the key and the enciphered record what it answers on
  -- the plain record.
  pub scores_same : (score : List ℕ) (room : ℕ) → Fit (words (decipher_net inst m idx wh)) score room
      → eval (net_of (glued_words (words (decipher_net inst m idx wh)) score)) (key ++ encipher_of inst m key rec idx wh) ≡ eval (net_of score) rec
  unfolding encipher_of
  scores_same score room f =
      let ks = keystream_of inst m key idx wh in
      let e = encipher_of inst m key rec idx wh in
      let W = words (decipher_net inst m idx wh) in
      glued_evaluates W score room f (key ++ e) (length-append key e ∙ omega (arith, g.key_length, encipher_length, emitted_inputs inst m idx wh l))
      ∙ ap (eval (net_of score))
      (ap (λ (net : Net). eval net (key ++ e)) (net_of-words (decipher_net inst m idx wh))
      ∙ emitted_evaluates inst m idx wh l key e encipher_inputs
      ∙ added_twice rec ks (omega (arith, g.rec_length, keystream_length inst m key idx wh)) g.rec_bit)
