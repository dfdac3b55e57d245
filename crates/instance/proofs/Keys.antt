-- What a key's judges accept, and what the bits of an accepted key are.
use Prim.Native.Nat.{ℕ, ◌≤◌}
use mathlib.Core.Path.{◌≡◌}
use mathlib.Core.List.{List}
use lib.ListN.{length, get_or}
use Rattle.std.specs.Prelude.{Ok}
use Rattle.answer.proofs.Judges.{length_done, done_length, bits-within, bits_done, done_bits}
use Rattle.instance.specs.Table.{key_bits}
use Rattle.instance.specs.Keys.{Keyed, key_in, key_length_answer, key_bits_answer}

pub keyed_length : (l inst : ℕ) (key : List ℕ) → Keyed inst key → key_length_answer l inst (length key) ≡ Ok tt
unfolding Keyed key_length_answer
keyed_length l inst key k = done_length l _ _ k.size

pub keyed_bits : (l inst : ℕ) (key : List ℕ) → Keyed inst key → key_bits_answer l inst key ≡ Ok tt
unfolding Keyed key_bits_answer
keyed_bits l inst key k = done_bits l key k.bit

pub done_keyed : (l inst : ℕ) (key : List ℕ) → key_length_answer l inst (length key) ≡ Ok tt → key_bits_answer l inst key ≡ Ok tt → Keyed inst key
unfolding Keyed key_length_answer key_bits_answer
done_keyed l inst key e b = record { size = length_done l _ _ e; bit = bits_done l key b }

-- there are N bits
pub key_size : (inst : ℕ) (key : List ℕ) → Keyed inst key → length (key_in inst key) ≡ key_bits inst
unfolding Keyed key_in
key_size inst key k = k.size

pub key_bit_lem : (inst : ℕ) (key : List ℕ) → Keyed inst key → (i : ℕ) → get_or (key_in inst key) i 0 ≤ 1
unfolding Keyed key_in
key_bit_lem inst key k = bits-within key k.bit
