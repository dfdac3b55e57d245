-- Acceptance of the calls: what the rules let a caller lend, with room for the result, is done, and the
-- result stands at the front of its list.
use Prim.Native.Nat.{ℕ, zero, suc, ◌+◌, ◌*◌, ◌%◌, ◌<◌, ◌≤◌}
use mathlib.Core.Path.{◌≡◌, sym, ap, ◌∙◌}
use mathlib.Core.List.{List}
use native.Mathlib.Nat.{mul-zero, mod-lt}
use native.Mathlib.Omega.{arith}
use lib.Arith.{digits_lt, digits_mod}
use lib.ListN.{length, get_or, take}
use Rattle.std.specs.Prelude.{Ok}
use Rattle.answer.specs.Answers.{Answer}
use Rattle.answer.specs.Fronts.{over, left}
use Rattle.answer.proofs.Over.{take-over, made}
use Rattle.netlist.specs.Words.{words}
use Rattle.netlist.specs.Emitted.{Emitted}
use Rattle.instance.specs.Table.{row_bits, white_bits}
use Rattle.instance.specs.Wired.{Wired, Bits}
use Rattle.instance.specs.Keys.{Keyed, key_in}
use Rattle.choice.specs.Choice.{row_of, Chosen}
use Rattle.choice.specs.Draws.{Drawn}
use Rattle.choice.proofs.Accepted.{row_fits, choose_accepted}
use Rattle.filter.specs.Filter.{tab}
use Rattle.filter.proofs.Tab.{tab-length, tab-at}
use Rattle.cipher.specs.Cipher.{keystream_of, encipher_of, Streamed, Ciphered}
use Rattle.judging.proofs.Accepted.{keystream_accepted, encipher_accepted}
use Rattle.emit.specs.Emit.{decipher_answer, decipher_net}
use Rattle.emit.proofs.Accepted.{decipher_accepted}
use Rattle.path.proofs.Scores.{inputs_of_lem, encipher_inputs}

-- ---- There are such lists, for every instance and every m: rows 0, 1, .. n - 1, and all else 0.

pub some_bits : (n : ℕ) → Bits n (tab (λ k. 0) n)
some_bits n =
    let l = tab-length (λ k. 0) n in
    record { size = l; bit = λ k h. omega (arith, tab-at (λ k. 0) n k (omega arith)) }

pub some-wiring : (inst m : ℕ) → 1 ≤ inst → inst ≤ 6 → 1 ≤ m → m ≤ 64
    → Wired inst m (tab (λ k. k % row_bits inst) (m * row_bits inst)) (tab (λ k. 0) (white_bits inst m))
some-wiring inst m least most some few =
    record {
      least = least;
      most = most;
      some = some;
      few = few;
      indices = indices;
      whitening = b.size;
      white_bit = b.bit;
      below = λ k h.
          let l : k < m * n = omega (arith, indices) in
          rw (tab-at (λ k. k % n) (m * n) k l) (omega (arith, row_fits inst, mod-lt k (filled m n k l)));
      distinct = λ i j k h f g e. sym (stands i j h f) ∙ e ∙ stands i k h g;
      plain = λ h k l. tab-at (λ k. 0) (white_bits inst m) k (omega (arith, b.size));
    }
  where
    n : ℕ
    n = row_bits inst

    b : Bits (white_bits inst m) (tab (λ k. 0) (white_bits inst m))
    b = some_bits (white_bits inst m)

    indices : length (tab (λ k. k % n) (m * n)) ≡ m * n
    indices = tab-length (λ k. k % n) (m * n)

    filled : (m n k : ℕ) → k < m * n → 0 < n
    filled m zero k h = absurd (omega (arith, mul-zero m))
    filled m (suc n) k h = omega arith

    -- place j of row i
    stands : (i j : ℕ) → i < m → j < n → get_or (tab (λ k. k % n) (m * n)) (i * n + j) 0 ≡ j
    stands i j h f = tab-at (λ k. k % n) (m * n) (i * n + j) (digits_lt h f) ∙ digits_mod i f

pub some_draws : (inst : ℕ) → 1 ≤ inst → inst ≤ 5 → Drawn inst (tab (λ k. 0) (row_bits inst))
some_draws inst least most =
    let l = tab-length (λ k. 0) (row_bits inst) in
    record {
      least = least;
      most = most;
      count = l;
      low = λ i h. omega (arith, row_fits inst, tab-at (λ k. 0) (row_bits inst) i (omega arith));
    }

-- ---- what the calls answer and leave

-- a call that is due (Ok tt), and what stands at the front of what it left
gives : {r due : Answer} (new old : List ℕ) {out : List ℕ} → r ≡ due → due ≡ Ok tt → out ≡ left r new old → (r ≡ Ok tt) × (out ≡ over new old)
gives new old a d w =
    let e = a ∙ d in
    (e, w ∙ sym (made new old e))

pub front_of : (new old : List ℕ) (n : ℕ) {out : List ℕ} → length new ≡ n → out ≡ over new old → take n out ≡ new
front_of new old n e w = ap (take n) w ∙ ap (λ (k : ℕ). take k (over new old)) (sym e) ∙ take-over new old

pub choose_gives : (inst : ℕ) (draws row : List ℕ) {r : Answer} {row' : List ℕ} → Drawn inst draws → row_bits inst ≤ length row
    → Chosen inst draws row r row' → (r ≡ Ok tt) × (row' ≡ over (row_of inst draws) row)
choose_gives inst draws row d h x = gives _ row x.answered (choose_accepted inst draws (length row) d h) x.written

module _ (inst m : ℕ) (idx wh : List ℕ) (wired : Wired inst m idx wh) where
  pub emit_gives : (out : List ℕ) {r : Answer} {out' : List ℕ} → length (words (decipher_net inst m idx wh)) ≤ length out
      → Emitted (decipher_answer inst m idx wh (length out)) (decipher_net inst m idx wh) out r out'
      → (r ≡ Ok tt) × (out' ≡ over (words (decipher_net inst m idx wh)) out)
  emit_gives out h x = gives _ out x.answered (decipher_accepted inst m idx wh (length out) wired h) x.written

  module _ (key : List ℕ) (keyed : Keyed inst key) where
    pub keystream_gives : (out : List ℕ) {r : Answer} {out' : List ℕ} → m ≤ length out → Streamed inst m key idx wh out r out'
        → (r ≡ Ok tt) × (out' ≡ over (keystream_of inst m (key_in inst key) idx wh) out)
    keystream_gives out h x = gives _ out x.answered (keystream_accepted inst m key idx wh (length out) wired keyed h) x.written

    -- enciphering and deciphering
    pub encipher_gives : (rec out : List ℕ) {r : Answer} {out' : List ℕ} → Bits m rec → m ≤ length out → Ciphered inst m key rec idx wh out r out'
        → (r ≡ Ok tt) × (out' ≡ over (encipher_of inst m (key_in inst key) rec idx wh) out)
    encipher_gives rec out b h x =
        gives _ out x.answered (encipher_accepted inst m key rec idx wh (length out) wired keyed b h) x.written

    -- an enciphered record is a record of m bits
    pub enciphered : (rec : List ℕ) → Bits m rec → Bits m (encipher_of inst m (key_in inst key) rec idx wh)
    enciphered rec b =
        let e = encipher_inputs inst m idx wh wired (key_in inst key) rec (inputs_of_lem inst m key rec keyed b) in
        record { size = e.rec_length; bit = e.rec_bit }
