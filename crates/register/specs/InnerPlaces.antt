-- Inner: only contracts of private functions cite this. Where the wires of Kreyvium's registers stand, in closed form.
use Rattle.std.specs.Prelude.{List, [], ◌∷◌, ◌++◌, ℕ, zero, suc, ◌+◌, ◌-◌, ◌*◌, ◌≤◌, ◌<◌, ltb, get_or}
use Rattle.netlist.specs.declared.gate.Gate.{Gate}
use Rattle.netlist.specs.declared.gate.Gate.TheVariants.{Xor, And}
use Rattle.kreyvium.specs.Kreyvium.{Registers, s_a, s_b, s_c, k0, v0}
use Rattle.answer.specs.Choose.{choose}
use Rattle.rounds.specs.Gates.{bit_of, start_wires, move_wires}
use Rattle.register.specs.declared.wires.Register.{Register}
use Rattle.register.specs.declared.wires.Register.TheVariants.{A, B, C}
use Rattle.register.specs.declared.wires.Five.{Five}
use Rattle.register.specs.declared.wires.Taps.{Taps}

-- the first of the last ten gates of round n, counted from 0
unfoldable pub tail_at : ℕ → ℕ → ℕ
tail_at m n = 134 + m + 14 * n + 3 * (n - 1151)

-- the registers before round n
unfoldable pub registers_at : List ℕ → ℕ → ℕ → Registers ℕ
registers_at iv m zero = start_wires iv m
registers_at iv m (suc n) = move_wires (tail_at m n) (registers_at iv m n)

unfoldable pub const_wire : List ℕ → ℕ → ℕ → ℕ
const_wire iv m i = bit_of (128 + m) (129 + m) (get_or iv i 0)

unfoldable pub start_c : List ℕ → ℕ → ℕ → ℕ
start_c iv m i = choose (ltb i 44) (const_wire iv m (84 + i)) (choose (ltb i 110) (129 + m) (128 + m))

-- what was loaded at place i of a register
abbrev pub loaded : Register → List ℕ → ℕ → ℕ → ℕ
loaded A iv m i = i
loaded B iv m i = const_wire iv m i
loaded C iv m i = start_c iv m i

-- the gate of a round's last ten whose wire enters it
abbrev pub entering : Register → ℕ
entering A = 9
entering B = 3
entering C = 6

-- place j of it: what entered j + 1 rounds ago, or what stood there at the start
unfoldable pub wire_of : Register → List ℕ → ℕ → ℕ → ℕ → ℕ
wire_of r iv m n j = choose (ltb j n) (tail_at m (n - j - 1) + entering r) (loaded r iv m (j - n))

-- the five places that a round reads of each register
abbrev pub five_of : Register → Registers ℕ → Five
five_of A s = record { p = s_a 0 s 66; q = s_a 0 s 69; r = s_a 0 s 91; s = s_a 0 s 92; t = s_a 0 s 93 }
five_of B s = record { p = s_b 0 s 162; q = s_b 0 s 171; r = s_b 0 s 175; s = s_b 0 s 176; t = s_b 0 s 177 }
five_of C s = record { p = s_c 0 s 243; q = s_c 0 s 264; r = s_c 0 s 286; s = s_c 0 s 287; t = s_c 0 s 288 }

-- all that a round reads
abbrev pub taps_of : Registers ℕ → Taps
taps_of s = record { a = five_of A s; b = five_of B s; c = five_of C s; k = k0 0 s; v = v0 0 s }

-- the same places, counted from 0
abbrev pub places_of : Register → Five
places_of A = record { p = 65; q = 68; r = 90; s = 91; t = 92 }
places_of B = record { p = 68; q = 77; r = 81; s = 82; t = 83 }
places_of C = record { p = 65; q = 86; r = 108; s = 109; t = 110 }

-- what is read of a register entered 66 to 111 rounds ago
abbrev pub Read : ℕ → Type 0
Read j = (65 ≤ j) × (j < 111)

-- the gates of a round over what it reads: head_of w (taps_of s) is head_gates w s, and tail_of alike
abbrev pub head_of : ℕ → Taps → List Gate
head_of w t =
    Xor t.a.p t.a.t
    ∷ Xor t.b.p t.b.t
    ∷ Xor t.c.p t.c.t
    ∷ Xor (w + 2) t.k
    ∷ []

abbrev pub gain_of : ℕ → ℕ → ℕ → ℕ → ℕ → ℕ → List Gate
gain_of t u v p q y = And p q ∷ Xor t u ∷ Xor v y ∷ []

abbrev pub tail_of : ℕ → ℕ → Taps → List Gate
tail_of w u t =
    gain_of w u (u + 1) t.a.r t.a.s t.b.q
    ++ ((Xor (u + 2) t.v ∷ [])
    ++ (gain_of (w + 1) (u + 4) (u + 5) t.b.r t.b.s t.c.q ++ gain_of (w + 3) (u + 7) (u + 8) t.c.r t.c.s t.a.q))
