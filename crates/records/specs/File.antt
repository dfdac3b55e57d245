-- The netlist file as it is judged and read. docs/RULES.md, "Netlist file": a two-byte mark before each record; words little-endian; "NH" I G O; for
-- each gate "NG", a kind byte, a b c; for each output "NO", wire. Lists: 1 what is read, 2 the result.
use Rattle.answer.specs.declared.Reason.TheVariants.{File}
use Rattle.std.specs.Prelude.{ℕ, zero, suc, ◌+◌, ◌*◌, Bool, false, not, List, [], ◌∷◌, ◌++◌, length, get_or, ltb, leb, eqb}
use Rattle.answer.specs.Answers.{Answer, ◌▹◌, refuse, each}
use Rattle.answer.specs.Choose.{choose}
use Rattle.answer.specs.Judges.{room_answer}
use Rattle.netlist.specs.declared.counts.Counts.{Counts}
use Rattle.netlist.specs.Words.{header_words, header, word_count}
use Rattle.netlist.specs.Check.{counts_answer, wires_answer}
use Rattle.records.specs.declared.form.Form.{Form}
use Rattle.records.specs.declared.form.Form.TheVariants.{Full}
use Rattle.records.specs.Bytes.{word_at, joined}

-- N
abbrev pub byte_n : ℕ
byte_n = 78

-- H
abbrev pub byte_h : ℕ
byte_h = 72

-- G
abbrev pub byte_g : ℕ
byte_g = 71

-- O
abbrev pub byte_o : ℕ
byte_o = 79

-- ---- the form: what tells one kind of file from another

-- the header's letter
unfoldable pub mark_of : Form → ℕ
mark_of Full = byte_h

-- how many of the operands a, b, c the record of a gate of this kind has: the first so many
unfoldable pub width_of : Form → ℕ → ℕ
width_of Full kind = 3

-- ---- the words in a file

-- the header's record: its mark and the counts
abbrev pub head_size : ℕ
head_size = 2 + 4 * header_words

-- the counts, after its mark
abbrev pub counts_in : List ℕ → Counts
counts_in s = record { inputs = word_at s 2; gates = word_at s 6; outputs = word_at s 10 }

abbrev pub inputs_in : List ℕ → ℕ
inputs_in s = (counts_in s).inputs

abbrev pub gates_in : List ℕ → ℕ
gates_in s = (counts_in s).gates

abbrev pub outputs_in : List ℕ → ℕ
outputs_in s = (counts_in s).outputs

-- how many bytes the gate record at p takes: mark, kind, operands
unfoldable pub size_at : Form → List ℕ → ℕ → ℕ
size_at form s p = 3 + 4 * width_of form (get_or s (p + 2) 0)

-- where the record of gate g begins; the outputs' begin where that of gate G would
unfoldable pub start_of : Form → List ℕ → ℕ → ℕ
start_of form s zero = head_size
start_of form s (suc g) = start_of form s g + size_at form s (start_of form s g)

-- operand j of the gate record at p; 0 where it has none
unfoldable pub operand_at : Form → List ℕ → ℕ → ℕ → ℕ
operand_at form s p j = choose (ltb j (width_of form (get_or s (p + 2) 0))) (word_at s (p + 3 + 4 * j)) 0

-- the four words of gate g
unfoldable pub four_in : Form → List ℕ → ℕ → List ℕ
four_in form s g =
    get_or s (start_of form s g + 2) 0
    ∷ operand_at form s (start_of form s g) 0
    ∷ operand_at form s (start_of form s g) 1
    ∷ operand_at form s (start_of form s g) 2
    ∷ []

-- an output's record: its mark and the wire
abbrev pub out_size : ℕ
out_size = 2 + 4

-- the wire of output o, where the outputs' records begin at p
unfoldable pub out_word : List ℕ → ℕ → ℕ → List ℕ
out_word s p o = word_at s (p + out_size * o + 2) ∷ []

unfoldable pub words_in : Form → List ℕ → List ℕ
words_in form s =
    header (counts_in s)
    ++ joined (gates_in s) (four_in form s)
    ++ joined (outputs_in s) (out_word s (start_of form s (gates_in s)))

-- ---- the answers

-- at p begins a record with N and this letter, and its bytes are all there
unfoldable pub record_begins : List ℕ → ℕ → ℕ → ℕ → Bool
record_begins s p letter size =
    choose (leb (p + size) (length s)) (choose (eqb (get_or s p 0) byte_n) (eqb (get_or s (p + 1) 0) letter) false) false

-- 12: file mark wrong, record cut; at the record's start
unfoldable pub record_answer : List ℕ → ℕ → ℕ → ℕ → Answer
record_answer s p letter size = refuse File 1 p (not (record_begins s p letter size))

unfoldable pub gate_record : Form → List ℕ → ℕ → Answer
gate_record form s g = record_answer s (start_of form s g) byte_g (size_at form s (start_of form s g))

unfoldable pub out_record : List ℕ → ℕ → ℕ → Answer
out_record s p o = record_answer s (p + out_size * o) byte_o out_size

-- n outputs' records from p on, then 12: bytes left over; at the rest's start
unfoldable pub outs_answer : List ℕ → ℕ → ℕ → Answer
outs_answer s p n = each n (out_record s p) ▹ refuse File 1 (p + out_size * n) (ltb (p + out_size * n) (length s))

unfoldable pub records_answer : Form → List ℕ → Answer
records_answer form s = each (gates_in s) (gate_record form s) ▹ outs_answer s (start_of form s (gates_in s)) (outputs_in s)

-- header (12), counts (9)
unfoldable pub head_answer : Form → List ℕ → Answer
head_answer form s = record_answer s 0 (mark_of form) head_size ▹ counts_answer 1 (counts_in s)

-- records and rest (12), wires (9)
unfoldable pub body_answer : Form → List ℕ → Answer
body_answer form s = records_answer form s ▹ wires_answer 1 (words_in form s) (counts_in s)

-- header (12), counts (9), room (8), records and rest (12), wires (9), where n words are lent for the result
unfoldable pub read_answer : Form → List ℕ → ℕ → Answer
read_answer form s n = head_answer form s ▹ room_answer 2 n (word_count (counts_in s)) ▹ body_answer form s

-- the same without room
unfoldable pub check_answer : Form → List ℕ → Answer
check_answer form s = head_answer form s ▹ body_answer form s
