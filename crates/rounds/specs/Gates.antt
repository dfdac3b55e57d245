-- The gates of Kreyvium's deciphering netlist: registers hold wire numbers, w is the next wire.
use Rattle.std.specs.Prelude.{List, [], ◌∷◌, ◌++◌, map, ℕ, zero, suc, ◌+◌}
use Rattle.netlist.specs.declared.gate.Gate.{Gate}
use Rattle.netlist.specs.declared.gate.Gate.TheVariants.{Zero, One, Xor, And}
use Rattle.netlist.specs.Net.{Net}
use Rattle.netlist.specs.Glue.{up_from}
use Rattle.kreyvium.specs.Kreyvium.{Registers, s_a, s_b, s_c, k0, v0, moved, loaded}

-- z for a bit 0, o for a bit 1
unfoldable pub bit_of : {X : Type 0} → X → X → ℕ → X
bit_of z o zero = z
bit_of z o (suc b) = o

-- t1, t2, s243 + s288, t3
abbrev pub head_gates : ℕ → Registers ℕ → List Gate
head_gates w s =
    Xor (s_a 0 s 66) (s_a 0 s 93)
    ∷ Xor (s_b 0 s 162) (s_b 0 s 177)
    ∷ Xor (s_c 0 s 243) (s_c 0 s 288)
    ∷ Xor (w + 2) (k0 0 s)
    ∷ []

-- t1 + t2, + t3, + the record bit's wire x; u is the first of the three
abbrev pub out_gates : ℕ → ℕ → ℕ → List Gate
out_gates w u x = Xor w (w + 1) ∷ Xor u (w + 3) ∷ Xor (u + 1) x ∷ []

-- what t1, t2 and t3 gain; u is the first of the ten
abbrev pub tail_gates : ℕ → ℕ → Registers ℕ → List Gate
tail_gates w u s =
    And (s_a 0 s 91) (s_a 0 s 92)
    ∷ Xor w u
    ∷ Xor (u + 1) (s_b 0 s 171)
    ∷ Xor (u + 2) (v0 0 s)
    ∷ And (s_b 0 s 175) (s_b 0 s 176)
    ∷ Xor (w + 1) (u + 4)
    ∷ Xor (u + 5) (s_c 0 s 264)
    ∷ And (s_c 0 s 286) (s_c 0 s 287)
    ∷ Xor (w + 3) (u + 7)
    ∷ Xor (u + 8) (s_a 0 s 69)
    ∷ []

-- the registers after a round whose last ten gates begin at u
unfoldable pub move_wires : ℕ → Registers ℕ → Registers ℕ
move_wires u s = moved 0 s (u + 9) (u + 3) (u + 6)

-- n rounds without output, then m with one, whose record bits are the wires from x on
unfoldable pub gates_from : ℕ → ℕ → ℕ → ℕ → Registers ℕ → List Gate
gates_from (suc n) m x w s =
    head_gates w s ++ (tail_gates w (w + 4) s ++ gates_from n m x (w + 14) (move_wires (w + 4) s))
gates_from zero (suc m) x w s =
    head_gates w s ++ (out_gates w (w + 4) x ++ (tail_gates w (w + 7) s ++ gates_from zero m (suc x) (w + 17) (move_wires (w + 7) s)))
gates_from zero zero x w s = []

unfoldable pub outs_from : ℕ → ℕ → ℕ → List ℕ
outs_from (suc n) m w = outs_from n m (w + 14)
outs_from zero (suc m) w = (w + 6) ∷ outs_from zero m (w + 17)
outs_from zero zero w = []

-- inputs: 128 key bits, m record bits; then ZERO and ONE
unfoldable pub start_wires : List ℕ → ℕ → Registers ℕ
start_wires iv m = loaded (128 + m) (129 + m) (up_from 0 128) (map (bit_of (128 + m) (129 + m)) iv)

unfoldable pub kreyvium_gates : List ℕ → ℕ → List Gate
kreyvium_gates iv m = Zero ∷ One ∷ gates_from 1152 m 128 (130 + m) (start_wires iv m)

unfoldable pub kreyvium_net : List ℕ → ℕ → Net
kreyvium_net iv m = record { inputs = 128 + m; gates = kreyvium_gates iv m; outs = outs_from 1152 m (130 + m) }
