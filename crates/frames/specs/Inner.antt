-- Inner: only contracts of private functions cite this.
use Rattle.std.specs.Prelude.{ℕ, ◌+◌, ◌*◌, ◌/◌, ◌^◌, ◌%◌, ◌≡◌, List, [], ◌∷◌, ◌++◌, length}
use Rattle.std.specs.Int.Bits.{bit_and, bit_xor}
use Rattle.kreyvium.specs.Words.{bits, tops}
use Rattle.sequence.specs.Files.{byte_p, byte_t, frame_size}
use Rattle.frames.specs.declared.iv.Iv.{Iv}
use Rattle.frames.specs.declared.seal.Key.{Key}

-- a word of 64 bits in which each group of k bits under the mask is exchanged with the k bits above it
abbrev pub exchanged_by : ℕ → ℕ → ℕ → ℕ
exchanged_by k mask x = bit_xor (bit_and (x / 2 ^ k) mask) (bit_and x mask * 2 ^ k % 2 ^ 64)

-- an IV's 128 bits, and its number
abbrev pub iv_bits : Iv → List ℕ
iv_bits v = tops 64 v.high ++ tops 64 v.low

abbrev pub iv_two : Iv → ℕ
iv_two v = v.high * 2 ^ 64 + v.low

-- a key's 128 bits
abbrev pub key_two : Key → List ℕ
key_two k = bits 64 k.first ++ bits 64 k.second

-- the mark "PT"
abbrev pub mark_bytes : List ℕ
mark_bytes = byte_p ∷ byte_t ∷ []

-- a file of n frames, none of them cut
pub record Whole (n : ℕ) (s : List ℕ) : Type 0 where
  pub size : length s ≡ frame_size * n
