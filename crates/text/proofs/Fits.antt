-- How long the printed text is at most. Every wire and every count has at most four digits.
use Prim.Native.Nat.{ℕ, suc, ◌+◌, ◌*◌, ◌≤◌, ◌<◌}
use mathlib.Core.Bool.{Bool, true, false}
use mathlib.Core.Path.{◌≡◌, refl}
use mathlib.Core.List.{List, [], ◌∷◌, ◌++◌}
use native.Mathlib.Decide.{dec_le}
use native.Mathlib.Omega.{arith}
use lib.ListN.{length, length-append}
use Rattle.answer.specs.Choose.{choose}
use Rattle.netlist.specs.declared.gate.Gate.{Gate}
use Rattle.netlist.specs.declared.gate.Gate.TheVariants.{Zero, One, Not, Xor, And, Mux}
use Rattle.netlist.specs.Net.{Net, depth, mults, muls_of, Uses, GatesWired, Below, Valid}
use Rattle.cells.specs.Cells.{threshold_net}
use Rattle.cells.proofs.Facts.{threshold_inputs, threshold_outputs, threshold_valid, threshold_gates_64}
use Rattle.emit.specs.Emit.{no_threshold}
use Rattle.emit.proofs.Shapes.{shape_good}
use Rattle.std.specs.Prelude.{Option, Some, None}
use Rattle.line.specs.declared.Line.{Line}
use Rattle.line.specs.Decimal.{decimal}
use Rattle.line.specs.Asked.{asked_of}
use Rattle.line.proofs.Decimals.{decimal_4}
use Rattle.text.specs.Text.{named, newline, space, pair, triple, title_line, sizes, costs, gate_text, gate_line, gate_lines, out_line, out_lines, net_text, refusal, threshold_text, text_of, printed}
use Rattle.text.proofs.Thresholds.{depth_none, depth-some}

named_most : (name : List ℕ) (n : ℕ) → n < 10000 → length (named name n) ≤ length name + 4
unfolding named
named_most name n h = omega (arith, length-append name (decimal n), decimal_4 n h)

-- parts in a row
two : (a b : List ℕ) → length (a ++ b) ≡ length a + length b
two a b = length-append a b

three : (a b c : List ℕ) → length (a ++ b ++ c) ≡ length a + length b + length c
three a b c = omega (arith, length-append (a ++ b) c, length-append a b)

four : (a b c d : List ℕ) → length (a ++ b ++ c ++ d) ≡ length a + length b + length c + length d
four a b c d = omega (arith, length-append (a ++ b ++ c) d, three a b c)

pair_most : (name : List ℕ) (a b : ℕ) → a < 10000 → b < 10000 → length (pair name a b) ≤ length name + 9
unfolding pair
pair_most name a b h k = omega (arith, two (named name a) (named space b), named_most name a h, named_most space b k)

triple_most : (name : List ℕ) (a b c : ℕ) → a < 10000 → b < 10000 → c < 10000 → length (triple name a b c) ≤ length name + 14
unfolding triple
triple_most name a b c h k l = omega (arith, two (pair name a b) (named space c), pair_most name a b h k, named_most space c l)

title_most : (d n : ℕ) → d < 10000 → n < 10000 → length (title_line d n) ≤ 12
unfolding title_line
title_most d n h k = omega (arith, two (pair (84 ∷ 32 ∷ []) d n) newline, pair_most (84 ∷ 32 ∷ []) d n h k)

sizes_most : (I G O : ℕ) → I < 10000 → G < 10000 → O < 10000 → length (sizes I G O) ≤ 27
unfolding sizes
sizes_most I G O h k l =
    let i : List ℕ = 105 ∷ 110 ∷ 32 ∷ [] in
    let g : List ℕ = 32 ∷ 103 ∷ 97 ∷ 116 ∷ 101 ∷ 115 ∷ 32 ∷ [] in
    let o : List ℕ = 32 ∷ 111 ∷ 117 ∷ 116 ∷ 32 ∷ [] in
    omega (arith, three (named i I) (named g G) (named o O), named_most i I h, named_most g G k, named_most o O l)

costs_most : (D M : ℕ) → D < 10000 → M < 10000 → length (costs D M) ≤ 22
unfolding costs
costs_most D M h k =
    let d : List ℕ = 32 ∷ 100 ∷ 101 ∷ 112 ∷ 116 ∷ 104 ∷ 32 ∷ [] in
    let m : List ℕ = 32 ∷ 109 ∷ 117 ∷ 108 ∷ 116 ∷ 32 ∷ [] in
    omega (arith, three (named d D) (named m M) newline, named_most d D h, named_most m M k)

gate_most : (w : ℕ) (g : Gate) → w ≤ 10000 → Uses w g → length (gate_text g) ≤ 19
unfolding gate_text
gate_most w Zero h u = omega arith
gate_most w One h u = omega arith
gate_most w (Not a) h u = omega (arith, named_most (32 ∷ 78 ∷ 79 ∷ 84 ∷ 32 ∷ []) a (omega arith))
gate_most w (Xor a b) h u = omega (arith, pair_most (32 ∷ 88 ∷ 79 ∷ 82 ∷ 32 ∷ []) a b (omega arith) (omega arith))
gate_most w (And a b) h u = omega (arith, pair_most (32 ∷ 65 ∷ 78 ∷ 68 ∷ 32 ∷ []) a b (omega arith) (omega arith))
gate_most w (Mux a b c) h u =
    omega (arith, triple_most (32 ∷ 77 ∷ 85 ∷ 88 ∷ 32 ∷ []) a b c (omega arith) (omega arith) (omega arith))

gate_line_most : (w : ℕ) (g : Gate) → w < 10000 → Uses w g → length (gate_line w g) ≤ 24
unfolding gate_line
gate_line_most w g h u =
    let l : w ≤ 10000 = omega arith in
    omega (arith, three (decimal w) (gate_text g) newline, decimal_4 w h, gate_most w g l u)

gates_most : (w : ℕ) (gs : List Gate) → w + length gs ≤ 10000 → GatesWired w gs → length (gate_lines w gs) ≤ 24 * length gs
unfolding gate_lines
gates_most w [] h u = omega arith
gates_most w (g ∷ gs) h u =
    let l : w < 10000 = omega arith in
    let k : suc w + length gs ≤ 10000 = omega arith in
    omega (arith, two (gate_line w g) (gate_lines (suc w) gs), gate_line_most w g l u.0, gates_most (suc w) gs k u.1)

out_most : (w : ℕ) → w < 10000 → length (out_line w) ≤ 9
unfolding out_line
out_most w h =
    let o : List ℕ = 111 ∷ 117 ∷ 116 ∷ 32 ∷ [] in
    omega (arith, two (named o w) newline, named_most o w h)

outs_most : (m : ℕ) (ws : List ℕ) → m ≤ 10000 → Below m ws → length (out_lines ws) ≤ 9 * length ws
unfolding out_lines
outs_most m [] h u = omega arith
outs_most m (w ∷ ws) h u =
    let l : w < 10000 = omega arith in
    omega (arith, two (out_line w) (out_lines ws), out_most w l, outs_most m ws h u.1)

mults_most : (gs : List Gate) → muls_of gs ≤ length gs
mults_most [] = omega arith
mults_most (Zero ∷ gs) = omega (arith, mults_most gs)
mults_most (One ∷ gs) = omega (arith, mults_most gs)
mults_most (Not a ∷ gs) = omega (arith, mults_most gs)
mults_most (Xor a b ∷ gs) = omega (arith, mults_most gs)
mults_most (And a b ∷ gs) = omega (arith, mults_most gs)
mults_most (Mux a b c ∷ gs) = omega (arith, mults_most gs)

net_most : (net : Net) → Valid net → net.inputs ≤ 64 → length net.gates ≤ 4289 → length net.outs ≡ 1 → depth net < 10000 → length (net_text net) ≤ 103000
unfolding net_text
net_most net v i g o d =
    let s = sizes_most net.inputs (length net.gates) (length net.outs) (omega arith) (omega arith) (omega arith) in
    let c = costs_most (depth net) (mults net) d (omega (arith, mults_most net.gates)) in
    let gs = gates_most net.inputs net.gates (omega arith) v.wired in
    let os = outs_most (net.inputs + length net.gates) net.outs (omega arith) v.outs in
    omega (
      arith,
      four (sizes net.inputs (length net.gates) (length net.outs)) (costs (depth net) (mults net)) (gate_lines net.inputs net.gates) (out_lines net.outs),
    )

pub threshold_few : (d n : ℕ) → no_threshold d n ≡ false → (threshold_net d n).inputs + length (threshold_net d n).gates ≤ 65536
threshold_few d n ok =
    let s = shape_good d n ok in
    omega (arith, threshold_inputs d n, threshold_gates_64 d n s.1 s.2 s.0)

depth_most : (d n : ℕ) → no_threshold d n ≡ false → depth (threshold_net d n) < 10000
depth_most d n ok =
    let s = shape_good d n ok in
    elim (dec_le d n) [
      | yes h ↦ omega (arith, depth-some d n ok h)
      | no h ↦ omega (arith, depth_none d n ok (omega arith))
    ]

netlist_fits : (d n : ℕ) → no_threshold d n ≡ false → length (title_line d n ++ net_text (threshold_net d n)) ≤ 131072
netlist_fits d n ok =
    let s = shape_good d n ok in
    let t = title_most d n (omega arith) (omega arith) in
    let i : (threshold_net d n).inputs ≤ 64 = omega (arith, threshold_inputs d n) in
    let m =
    net_most (threshold_net d n) (threshold_valid d n s.1 s.2) i (threshold_gates_64 d n s.1 s.2 s.0) (threshold_outputs d n) (depth_most d n ok) in
    omega (arith, two (title_line d n) (net_text (threshold_net d n)))

pub threshold_fits : (d n : ℕ) → length (threshold_text d n) ≤ 131072
unfolding threshold_text
threshold_fits d n = go (no_threshold d n) refl
  where
    go : (b : Bool) → no_threshold d n ≡ b → length (choose b refusal (title_line d n ++ net_text (threshold_net d n))) ≤ 131072
    go true e = omega arith
    go false e = netlist_fits d n e

text_fits : (a : Option Line) → length (text_of a) ≤ 131072
unfolding text_of
text_fits None = omega arith
text_fits (Some a) = threshold_fits a.d a.n

-- whatever the input, 131,072 bytes are room enough
pub printed-fits : (input : List ℕ) → length (printed input) ≤ 131072
unfolding printed
printed-fits input = text_fits (asked_of input)
