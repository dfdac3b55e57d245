-- Frames and the calls below them: a frame holds what `encipher` with instance 6 gives, and the netlist that deciphers under
-- its IV gives the record.
use Prim.Native.Nat.{ℕ, ◌+◌, ◌≤◌}
use mathlib.Core.Path.{◌≡◌, sym, ap, ◌∙◌}
use mathlib.Core.List.{List, [], ◌++◌}
use native.Mathlib.Omega.{arith}
use lib.ListN.{length, take}
use Rattle.std.specs.Prelude.{Ok}
use Rattle.answer.specs.Answers.{Answer}
use Rattle.answer.proofs.Over.{made}
use Rattle.netlist.specs.Net.{eval}
use Rattle.netlist.specs.Words.{inputs_of, gates_of, words}
use Rattle.netlist.specs.Emitted.{Emitted}
use Rattle.instance.specs.Wired.{Wired, Bits}
use Rattle.instance.specs.Keys.{Keyed, key_in}
use Rattle.instance.proofs.Accepted.{kreyvium_wired}
use Rattle.cipher.specs.Cipher.{encipher_of, Ciphered}
use Rattle.evaluate.specs.Evaluate.{Evaluated}
use Rattle.emit.specs.Emit.{decipher_net, decipher_answer}
use Rattle.path.proofs.Scores.{inputs_of_lem, emitted_evaluates}
use Rattle.port.specs.Bytes.{unpacked, BitList}
use Rattle.sequence.specs.Files.{start}
use Rattle.frames.specs.Frames.{record_in, Appended}
use Rattle.frames.specs.Lent.{AppendLent}
use Rattle.frames.proofs.Judged.{lent-append}
use Rattle.frames.proofs.Sealing.{unpacked-length, unpacked_small, sealed-bits, sealed-back}
use Rattle.frames.proofs.Places.{frame_sealed}
use Rattle.claims.proofs.Accepted.{front_of, encipher_gives}
use Rattle.claims.proofs.Scoring.{emitted_gives}

-- ---- what Kreyvium's calls are lent

bits_of_lem : (n : ℕ) (s : List ℕ) → BitList n s → Bits n s
bits_of_lem n s b = record { size = b.size; bit = λ k h. b.bit k }

wired : (iv : List ℕ) → BitList 128 iv → Wired 6 64 [] iv
wired iv v = kreyvium_wired 64 iv (omega arith) (omega arith) (bits_of_lem 128 iv v)

-- ---- a frame and `encipher`

-- `append` accepts what may be lent to it, and the frame holds the enciphered record
appended : (key rec iv s out : List ℕ) {r : Answer} {out' : List ℕ} → AppendLent key rec iv s (length out) → Appended key rec iv s out r out'
    → (r ≡ Ok tt) × (unpacked out' 18 64 ≡ encipher_of 6 64 (key_in 6 key) rec [] iv)
appended key rec iv s out l a =
    let e = a.answered ∙ lent-append key rec iv s (length out) l in
    (e, ap (λ (x : List ℕ). unpacked x 18 64) (a.written ∙ sym (made _ _ e)) ∙ frame_sealed (key_in 6 key) rec iv out l.record_bits.size)

-- what `encipher` gives on the same record stands in the frame, packed
pub frame_enciphers : (key rec iv s out enc : List ℕ) {q r : Answer} {out' enc' : List ℕ} → AppendLent key rec iv s (length out) → 64 ≤ length enc
    → Appended key rec iv s out q out' → Ciphered 6 64 key rec [] iv enc r enc'
    → (q ≡ Ok tt) × (r ≡ Ok tt) × (unpacked out' 18 64 ≡ take 64 enc')
frame_enciphers key rec iv s out enc l h a c =
    let e = encipher_of 6 64 (key_in 6 key) rec [] iv in
    let f = appended key rec iv s out l a in
    let g = encipher_gives 6 64 [] iv (wired iv l.iv_bits) key l.keyed rec enc (bits_of_lem 64 rec l.record_bits) h c in
    (f.0, g.0, f.1 ∙ sym (front_of e enc 64 (sealed-bits (key_in 6 key) rec iv l.record_bits.size).size g.1))

-- ---- a frame and the netlist of its IV

netlist_deciphers : (key bits iv : List ℕ) → Keyed 6 key → BitList 64 bits → BitList 128 iv
    → eval (decipher_net 6 64 [] iv) (key_in 6 key ++ bits) ≡ encipher_of 6 64 (key_in 6 key) bits [] iv
netlist_deciphers key bits iv k b v =
    emitted_evaluates 6 64 [] iv (wired iv v) (key_in 6 key) bits (inputs_of_lem 6 64 key bits k (bits_of_lem 64 bits b))

-- Of the definitions: evaluated on the key and the 64 bits of frame k, the netlist gives the frame's record.
module _ (key s : List ℕ) (k : ℕ) (b : Keyed 6 key) where
  abbrev iv : List ℕ
  iv = unpacked s (start k + 2) 128

  abbrev sealed : List ℕ
  sealed = unpacked s (start k + 18) 64

  iv-bits : BitList 128 iv
  iv-bits = record { size = unpacked-length s (start k + 2) 128; bit = unpacked_small s (start k + 2) 128 }

  sealed_list : BitList 64 sealed
  sealed_list = record { size = unpacked-length s (start k + 18) 64; bit = unpacked_small s (start k + 18) 64 }

  pub frame_evaluates : eval (decipher_net 6 64 [] iv) (key_in 6 key ++ sealed) ≡ record_in (key_in 6 key) s k
  unfolding record_in
  frame_evaluates = netlist_deciphers key sealed iv b sealed_list iv-bits

  -- Of the calls: emitted with room and evaluated with room, both are accepted.
  abbrev net_words : List ℕ
  net_words = words (decipher_net 6 64 [] iv)

  pub frame_netlist : (out vals outs : List ℕ) {r t : Answer} {out' vals' outs' : List ℕ}
      → length net_words ≤ length out → inputs_of net_words + gates_of net_words ≤ length vals → 64 ≤ length outs
      → Emitted (decipher_answer 6 64 [] iv (length out)) (decipher_net 6 64 [] iv) out r out'
      → Evaluated (take (length net_words) out') (key_in 6 key ++ sealed) vals outs t vals' outs'
      → (r ≡ Ok tt) × (t ≡ Ok tt) × (take 64 outs' ≡ record_in (key_in 6 key) s k)
  unfolding record_in
  frame_netlist out vals outs h hv ho m v =
      emitted_gives 6 64 [] iv (wired iv iv-bits) key sealed b (bits_of_lem 64 sealed sealed_list) out vals outs h hv ho m v

-- So the frame that `append` left is deciphered by the netlist of its IV: on the key and the frame's 64 bits it gives the
-- record.
pub appended_deciphered : (key rec iv s out : List ℕ) {r : Answer} {out' : List ℕ} → AppendLent key rec iv s (length out) → Appended key rec iv s out r out'
    → (r ≡ Ok tt) × (eval (decipher_net 6 64 [] iv) (key_in 6 key ++ unpacked out' 18 64) ≡ rec)
appended_deciphered key rec iv s out l a =
    let bits = key_in 6 key in
    let e = encipher_of 6 64 bits rec [] iv in
    let f = appended key rec iv s out l a in (
      f.0,
      ap (λ (x : List ℕ). eval (decipher_net 6 64 [] iv) (bits ++ x)) f.1
          ∙ netlist_deciphers key e iv l.keyed (sealed-bits bits rec iv l.record_bits.size) l.iv_bits
          ∙ sealed-back bits rec iv l.record_bits,
    )
