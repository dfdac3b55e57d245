-- The closed forms by cases, as the code's branches meet them.
use mathlib.Core.Path.{◌≡◌, refl}
use mathlib.Core.List.{List}
use Prim.Native.Nat.{ℕ, zero, suc, ◌+◌, ◌-◌, ◌≤◌, ◌<◌}
use borrow.Author.Tests.{lt-ltb, le-ltb}
use lib.ListN.{get_or}
use Rattle.rounds.specs.Gates.{bit_of}
use Rattle.register.specs.declared.wires.Register.{Register}
use Rattle.register.specs.InnerPlaces.{tail_at, const_wire, start_c, entering, loaded, wire_of}

const_bit : (z o b : ℕ) → (b ≡ 0 → ⊥) → o ≡ bit_of z o b
unfolding bit_of
const_bit z o zero h = absurd (h refl)
const_bit z o (suc b) h = refl

pub const_zero : (iv : List ℕ) (m i : ℕ) → get_or iv i 0 ≡ 0 → 128 + m ≡ const_wire iv m i
unfolding const_wire bit_of
const_zero iv m i e = rw e

pub const_one : (iv : List ℕ) (m i : ℕ) → (get_or iv i 0 ≡ 0 → ⊥) → 129 + m ≡ const_wire iv m i
unfolding const_wire
const_one iv m i h = const_bit (128 + m) (129 + m) (get_or iv i 0) h

pub wire_new : (r : Register) (iv : List ℕ) (m n j t : ℕ) → j < n → t ≡ tail_at m (n - j - 1) → t + entering r ≡ wire_of r iv m n j
unfolding wire_of
wire_new r iv m n j t h e = rw (lt-ltb j n h, e)

pub wire_old : (r : Register) (iv : List ℕ) (m n j t : ℕ) → n ≤ j → t ≡ loaded r iv m (j - n) → t ≡ wire_of r iv m n j
unfolding wire_of
wire_old r iv m n j t h e = rw (le-ltb j n h) e

pub c_iv : (iv : List ℕ) (m i r : ℕ) → i < 44 → r ≡ const_wire iv m (84 + i) → r ≡ start_c iv m i
unfolding start_c
c_iv iv m i r h e = rw (lt-ltb i 44 h) e

pub c_ones : (iv : List ℕ) (m i : ℕ) → 44 ≤ i → i < 110 → 129 + m ≡ start_c iv m i
unfolding start_c
c_ones iv m i h g = rw (le-ltb i 44 h, lt-ltb i 110 g)

pub c_zero : (iv : List ℕ) (m i : ℕ) → 44 ≤ i → 110 ≤ i → 128 + m ≡ start_c iv m i
unfolding start_c
c_zero iv m i h g = rw (le-ltb i 44 h, le-ltb i 110 g)
