-- The netlist file, written, and what the calls promise. docs/RULES.md, "Netlist file": a two-byte mark before each record;
-- words little-endian; "NH" I G O; for each gate "NG", a kind byte, a b c; for each output "NO", wire. Lists: 1 what is read
-- or written, 2 the result.
use Rattle.std.specs.Prelude.{ℕ, ◌+◌, ◌≡◌, List, ◌∷◌, ◌++◌, length, get_or}
use Rattle.answer.specs.Answers.{Answer, ◌▹◌}
use Rattle.answer.specs.Fronts.{left}
use Rattle.answer.specs.Judges.{room_answer}
use Rattle.netlist.specs.Words.{header_words, gate_place, gates_of, outputs_of}
use Rattle.netlist.specs.Check.{net_answer}
use Rattle.records.specs.declared.form.Form.{Form}
use Rattle.records.specs.Bytes.{joined}
use Rattle.records.specs.File.{byte_n, byte_g, byte_o, mark_of, width_of, words_in, read_answer}
use Rattle.file.specs.Bytes.{little}

-- ---- the bytes of a netlist

-- n words from word p on
unfoldable pub words_bytes : List ℕ → ℕ → ℕ → List ℕ
words_bytes net p n = joined n (λ j. little (get_or net (p + j) 0))

-- "NH" I G O
unfoldable pub head_bytes : Form → List ℕ → List ℕ
head_bytes form net = byte_n ∷ mark_of form ∷ words_bytes net 0 header_words

-- "NG", a kind byte, a b c
unfoldable pub gate_bytes : Form → List ℕ → ℕ → List ℕ
gate_bytes form net g =
    byte_n ∷ byte_g ∷ get_or net (gate_place g) 0 ∷ words_bytes net (gate_place g + 1) (width_of form (get_or net (gate_place g) 0))

-- "NO", wire
unfoldable pub out_bytes : List ℕ → ℕ → List ℕ
out_bytes net o = byte_n ∷ byte_o ∷ words_bytes net (gate_place (gates_of net) + o) 1

unfoldable pub file_of : Form → List ℕ → List ℕ
file_of form net = head_bytes form net ++ joined (gates_of net) (gate_bytes form net) ++ joined (outputs_of net) (out_bytes net)

-- ---- the answers

-- 9, 8, where n bytes are lent for the result
unfoldable pub write_answer : Form → List ℕ → ℕ → Answer
write_answer form net n = net_answer 1 net ▹ room_answer 2 n (length (file_of form net))

-- what a call that was lent source and result answers, and what it leaves in the last
pub record ReadAs (form : Form) (source result : List ℕ) (r : Answer) (result' : List ℕ) : Type 0 where
  pub answered : r ≡ read_answer form source (length result)
  pub written : result' ≡ left r (words_in form source) result

-- the same of one that was lent net and result
pub record WrittenAs (form : Form) (net result : List ℕ) (r : Answer) (result' : List ℕ) : Type 0 where
  pub answered : r ≡ write_answer form net (length result)
  pub written : result' ≡ left r (file_of form net) result
