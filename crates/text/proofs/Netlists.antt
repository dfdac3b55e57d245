-- Lines of gates and outputs, read from a netlist's words.
use Prim.Native.Nat.{ℕ, suc, ◌+◌, ◌-◌, ◌≤◌, ◌<◌}
use mathlib.Core.Path.{◌≡◌, ap}
use mathlib.Core.List.{List, [], ◌++◌}
use native.Mathlib.Omega.{arith}
use native.Mathlib.Numerals.{add-one}
use lib.ListN.{length, get_or, drop, length-append, drop_of_length-le}
use lib.Seq.{drop-cons}
use Rattle.netlist.specs.Net.{Net, depth, mults}
use Rattle.netlist.specs.Words.{header_words, gate_place, gate_at, gates_at, words}
use Rattle.netlist.proofs.Words.{net_of-words}
use Rattle.text.specs.Text.{sizes, costs, gate_line, gate_lines, out_line, out_lines, net_text}
use Rattle.text.specs.Inner.{Room, words_text}

-- the next gate, and the rest
pub gates_turn : (ws : List ℕ) (w i n : ℕ) → i < n → gate_lines (w + i) (gates_at ws (gate_place i) (n - i)) ≡ gate_line (w + i) (gate_at ws (gate_place i)) ++ gate_lines (w + (i + 1)) (gates_at ws (gate_place (i + 1)) (n - (i + 1)))
unfolding gate_lines
gates_turn ws w i n h =
    let z : n - i ≡ suc (n - (i + 1)) = omega arith in
    let y : suc (w + i) ≡ w + (i + 1) = omega arith in
    let x : gate_place i + 4 ≡ gate_place (i + 1) = omega arith in
    rw (z, y, x)

pub gates_none : (ws : List ℕ) (w i n : ℕ) → n ≤ i → gate_lines w (gates_at ws (gate_place i) (n - i)) ≡ []
unfolding gate_lines
gates_none ws w i n h = let z : n - i ≡ 0 = omega arith in rw z

-- the next output, and the rest
pub outs_turn : (ws : List ℕ) (i : ℕ) → i < length ws → out_lines (drop i ws) ≡ out_line (get_or ws i 0) ++ out_lines (drop (i + 1) ws)
unfolding out_lines
outs_turn ws i h = rw (add-one i, drop-cons ws i 0 h)

pub outs_none : (ws : List ℕ) (i : ℕ) → length ws ≤ i → out_lines (drop i ws) ≡ []
unfolding out_lines
outs_none ws i h = rw (drop_of_length-le ws h)

-- For a loop: text and rest make what start and whole make. There is room for the first part of the rest.
pub part_room : (text rest start whole part more : List ℕ) → text ++ rest ≡ start ++ whole → rest ≡ part ++ more → Room start whole
    → Room text part
part_room text rest start whole part more e f h =
    omega (arith, ap length e, length-append text rest, length-append start whole, ap length f, length-append part more)

-- a netlist's words, and the netlist
pub words_text_lem : (net : Net) (D M : ℕ) → D ≡ depth net → M ≡ mults net → words_text (words net) D M ≡ net_text net
unfolding words_text net_text
words_text_lem net D M e f =
    let gs : gates_at (words net) header_words (length net.gates) ≡ net.gates = ap Net.gates (net_of-words net) in
    let os : drop (gate_place (length net.gates)) (words net) ≡ net.outs = ap Net.outs (net_of-words net) in
    λ i.
    sizes net.inputs (length net.gates) (length net.outs)
    ++ costs (e i) (f i)
    ++ gate_lines net.inputs (gs i)
    ++ out_lines (os i)
