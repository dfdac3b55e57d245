-- What packed words stand for: a word of 64 bits is a list of bits, two words are a register.
use Rattle.std.specs.Prelude.{List, [], ◌∷◌, ◌++◌, ℕ, zero, suc, ◌+◌, ◌*◌, ◌-◌, ◌/◌, ◌%◌, ◌^◌, take}
use Rattle.kreyvium.specs.declared.Words.{Words}
use Rattle.kreyvium.specs.declared.State.{State}
use Rattle.kreyvium.specs.Kreyvium.{Registers}

-- the n low bits of x, lowest first
unfoldable pub bits : ℕ → ℕ → List ℕ
bits zero x = []
bits (suc n) x = x % 2 ∷ bits n (x / 2)

-- and back: the number whose bits these are
unfoldable pub packed : List ℕ → ℕ
packed [] = 0
packed (b ∷ l) = packed l * 2 + b

-- the bit of x at place i, the lowest at place 0
unfoldable pub bit : ℕ → ℕ → ℕ
bit x i = x / 2 ^ i % 2

-- the first n of 64 bits in the order in which they came out: at place 63, at 62, and so on down
unfoldable pub tops : ℕ → ℕ → List ℕ
tops zero z = []
tops (suc n) z = tops n z ++ (bit z (63 - n) ∷ [])

-- a register of n places; what two words hold above its length does not count
unfoldable pub reg : ℕ → Words → List ℕ
reg n w = take n (bits 64 w.lo ++ bits 64 w.hi)

-- the registers that a state stands for
unfoldable pub state_of : State → Registers ℕ
state_of s = record {
  a = reg 93 s.a;
  b = reg 84 s.b;
  c = reg 111 s.c;
  k = reg 128 s.k;
  v = reg 128 s.v;
}
