-- Inner: only contracts of private functions cite this. Text with room after it; the printed text from a netlist's words.
use Rattle.std.specs.Prelude.{ℕ, ◌+◌, ◌≤◌, List, ◌++◌, length, drop}
use Rattle.netlist.specs.Words.{header_words, gate_place, inputs_of, gates_of, outputs_of, gates_at}
use Rattle.text.specs.Text.{sizes, costs, gate_lines, out_lines}

-- there is room for more after a text
abbrev pub Room : List ℕ → List ℕ → Type 0
Room text more = length text + length more ≤ 131072

-- what is printed of a netlist, from its words: D is its depth, M its multiplications
unfoldable pub words_text : List ℕ → ℕ → ℕ → List ℕ
words_text ws D M =
    sizes (inputs_of ws) (gates_of ws) (outputs_of ws)
    ++ costs D M
    ++ gate_lines (inputs_of ws) (gates_at ws header_words (gates_of ws))
    ++ out_lines (drop (gate_place (gates_of ws)) ws)
