-- The rules' example: what is printed for "2 3", byte by byte.
use Prim.Native.Nat.{ℕ}
use mathlib.Core.Path.{◌≡◌, ap}
use mathlib.Core.List.{List, [], ◌∷◌, ◌++◌}
use Rattle.netlist.specs.Net.{Net}
use Rattle.cells.proofs.Samples.{two_of_three}
use Rattle.emit.specs.Emit.{no_threshold}
use Rattle.line.specs.Decimal.{decimal_digits, decimal}
use Rattle.line.specs.Asked.{digit_at, number_of, number_at, ended_by, followed, asked_of}
use Rattle.text.specs.Text.{named, pair, triple, title_line, sizes, costs, gate_text, gate_line, gate_lines, out_line, out_lines, net_text, threshold_text, text_of, printed}

-- 2 3
abbrev pub example : List ℕ
example = 50 ∷ 32 ∷ 51 ∷ 10 ∷ []

abbrev pub example_text : List ℕ
example_text =
    -- T 2 3
    84 ∷ 32 ∷ 50 ∷ 32 ∷ 51 ∷ 10
    -- in 3 gates 5 out 1 depth 2 mult 3
    ∷ 105 ∷ 110 ∷ 32 ∷ 51 ∷ 32 ∷ 103 ∷ 97 ∷ 116 ∷ 101 ∷ 115 ∷ 32 ∷ 53 ∷ 32 ∷ 111 ∷ 117 ∷ 116 ∷ 32 ∷ 49 ∷ 32 ∷ 100 ∷ 101 ∷ 112 ∷ 116 ∷ 104 ∷ 32 ∷ 50 ∷ 32 ∷ 109 ∷ 117 ∷ 108 ∷ 116 ∷ 32 ∷ 51 ∷ 10
    -- 3 NOT 0
    ∷ 51 ∷ 32 ∷ 78 ∷ 79 ∷ 84 ∷ 32 ∷ 48 ∷ 10
    -- 4 MUX 1 0 3
    ∷ 52 ∷ 32 ∷ 77 ∷ 85 ∷ 88 ∷ 32 ∷ 49 ∷ 32 ∷ 48 ∷ 32 ∷ 51 ∷ 10
    -- 5 AND 0 1
    ∷ 53 ∷ 32 ∷ 65 ∷ 78 ∷ 68 ∷ 32 ∷ 48 ∷ 32 ∷ 49 ∷ 10
    -- 6 AND 4 2
    ∷ 54 ∷ 32 ∷ 65 ∷ 78 ∷ 68 ∷ 32 ∷ 52 ∷ 32 ∷ 50 ∷ 10
    -- 7 XOR 6 5
    ∷ 55 ∷ 32 ∷ 88 ∷ 79 ∷ 82 ∷ 32 ∷ 54 ∷ 32 ∷ 53 ∷ 10
    -- out 7
    ∷ 111 ∷ 117 ∷ 116 ∷ 32 ∷ 55 ∷ 10
    ∷ []

pub example-printed : printed example ≡ example_text
unfolding digit_at number_of number_at ended_by followed asked_of decimal_digits decimal named pair triple title_line sizes costs gate_text gate_line gate_lines out_line out_lines net_text no_threshold threshold_text text_of printed
example-printed = ap (λ (net : Net). title_line 2 3 ++ net_text net) two_of_three
