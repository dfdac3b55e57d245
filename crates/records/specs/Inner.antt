-- Inner: only contracts of private functions cite this. The steps in which the code judges a file, and what each hands to
-- the next.
use Rattle.answer.specs.declared.Reason.TheVariants.{Netlist}
use Rattle.std.specs.Prelude.{ℕ, ◌+◌, ◌*◌, ◌<◌, ◌≤◌, ◌≡◌, List, length, get_or, leb}
use Rattle.answer.specs.Answers.{Answer, refuse}
use Rattle.netlist.specs.Words.{gate_place}
use Rattle.netlist.specs.Check.{words_answer}
use Rattle.netlist.specs.Sound.{Limits}
use Rattle.records.specs.declared.form.Form.{Form}
use Rattle.records.specs.Bytes.{word_at}
use Rattle.records.specs.File.{byte_n, byte_g, byte_o, mark_of, head_size, out_size, counts_in, gates_in, outputs_in, size_at, start_of, operand_at}

-- the words of gate g and of output o, judged where they stand in the file
unfoldable pub gate_wire : Form → List ℕ → ℕ → ℕ → Answer
gate_wire form s I g =
    words_answer (get_or s (start_of form s g + 2) 0)
    (operand_at form s (start_of form s g) 0)
    (operand_at form s (start_of form s g) 1)
    (operand_at form s (start_of form s g) 2)
    (I + g)
    1
    (gate_place g)

unfoldable pub out_wire : List ℕ → ℕ → ℕ → ℕ → ℕ → Answer
out_wire s p I G o = refuse Netlist 1 (gate_place G + o) (leb (I + G) (word_at s (p + out_size * o + 2)))

-- the first n gate records are all there
pub record GatesThere (form : Form) (s : List ℕ) (n : ℕ) : Type 0 where
  pub there : (g : ℕ) → g < n → start_of form s g + size_at form s (start_of form s g) ≤ length s

-- what a file has where a record begins
pub record Begun (s : List ℕ) (p letter size : ℕ) : Type 0 where
  pub fits : p + size ≤ length s
  pub first : get_or s p 0 ≡ byte_n
  pub second : get_or s (p + 1) 0 ≡ letter

-- what a file has whose header and counts are accepted
pub record Headed (form : Form) (s : List ℕ) : Type 0 where
  pub head : Begun s 0 (mark_of form) head_size
  pub limits : Limits (counts_in s)

-- what a file has whose records are whole
pub record Framed (form : Form) (s : List ℕ) : Type 0 where
  pub head : Begun s 0 (mark_of form) head_size
  pub limits : Limits (counts_in s)
  pub gate : (g : ℕ) → g < gates_in s → Begun s (start_of form s g) byte_g (size_at form s (start_of form s g))
  pub out : (o : ℕ) → o < outputs_in s → Begun s (start_of form s (gates_in s) + out_size * o) byte_o out_size
  pub rest : length s ≤ start_of form s (gates_in s) + out_size * outputs_in s
