-- Numbers and bits in bytes, the high one first.
use Rattle.std.specs.Prelude.{ℕ, zero, suc, ◌+◌, ◌*◌, ◌-◌, ◌/◌, ◌%◌, ◌≤◌, ◌≡◌, List, length, get_or}
use Rattle.filter.specs.Filter.{tab}
use Rattle.kreyvium.specs.Words.{bit}

-- the number that n digits from place p on make in a base, the first the highest
unfoldable pub value_at : ℕ → List ℕ → ℕ → ℕ → ℕ
value_at base s p zero = 0
value_at base s p (suc n) = value_at base s p n * base + get_or s (p + n) 0

-- the n low bits of a number, the highest first
unfoldable pub high_first : ℕ → ℕ → List ℕ
high_first n x = tab (λ i. bit x (n - 1 - i)) n

-- n bytes made of bits, eight a byte, the first the high one
unfoldable pub packed : ℕ → List ℕ → List ℕ
packed n bits = tab (λ k. value_at 2 bits (8 * k) 8) n

-- n bits of the bytes from place p on: bit i is in byte i / 8, and bit 0 is the high one of the first
unfoldable pub unpacked : List ℕ → ℕ → ℕ → List ℕ
unpacked s p n = tab (λ i. bit (get_or s (p + i / 8) 0) (7 - i % 8)) n

-- a list of n bits
pub record BitList (n : ℕ) (s : List ℕ) : Type 0 where
  pub size : length s ≡ n
  pub bit : (i : ℕ) → get_or s i 0 ≤ 1
