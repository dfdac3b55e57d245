-- What the printing program prints. docs/RULES.md, "The printing program": a title with d and n; counts; a gate's wire,
-- kind and used operands; each output wire. Bytes are in comments as they read.
use Rattle.std.specs.Prelude.{ℕ, suc, ◌≡◌, List, [], ◌∷◌, ◌++◌, length, Option, Some, None, Result}
use Rattle.answer.specs.Choose.{choose}
use Rattle.answer.specs.declared.Refusal.{Refusal}
use Rattle.answer.specs.Answers.{giving}
use Rattle.answer.specs.Fronts.{left}
use Rattle.netlist.specs.declared.gate.Gate.{Gate}
use Rattle.netlist.specs.declared.gate.Gate.TheVariants.{Zero, One, Not, Xor, And, Mux}
use Rattle.netlist.specs.Net.{Net, depth, mults}
use Rattle.answer.specs.Judges.{room_answer}
use Rattle.cells.specs.Cells.{threshold_net}
use Rattle.emit.specs.Emit.{no_threshold}
use Rattle.line.specs.declared.Line.{Line}
use Rattle.line.specs.Decimal.{decimal}
use Rattle.line.specs.Asked.{asked_of}

-- "\n", " "
abbrev pub newline : List ℕ
newline = 10 ∷ []

abbrev pub space : List ℕ
space = 32 ∷ []

-- a number and what stands before it
unfoldable pub named : List ℕ → ℕ → List ℕ
named name n = name ++ decimal n

-- two numbers, or three, with a space between
unfoldable pub pair : List ℕ → ℕ → ℕ → List ℕ
pair name a b = named name a ++ named space b

unfoldable pub triple : List ℕ → ℕ → ℕ → ℕ → List ℕ
triple name a b c = pair name a b ++ named space c

-- "T d n"
unfoldable pub title_line : ℕ → ℕ → List ℕ
title_line d n = pair (84 ∷ 32 ∷ []) d n ++ newline

-- "in I gates G out O", and " depth D mult M" to the line's end
unfoldable pub sizes : ℕ → ℕ → ℕ → List ℕ
sizes I G O =
    named (105 ∷ 110 ∷ 32 ∷ []) I
    ++ named (32 ∷ 103 ∷ 97 ∷ 116 ∷ 101 ∷ 115 ∷ 32 ∷ []) G
    ++ named (32 ∷ 111 ∷ 117 ∷ 116 ∷ 32 ∷ []) O

unfoldable pub costs : ℕ → ℕ → List ℕ
costs D M =
    named (32 ∷ 100 ∷ 101 ∷ 112 ∷ 116 ∷ 104 ∷ 32 ∷ []) D
    ++ named (32 ∷ 109 ∷ 117 ∷ 108 ∷ 116 ∷ 32 ∷ []) M
    ++ newline

-- " ZERO", " ONE", " NOT a", " XOR a b", " AND a b", " MUX a b c"
unfoldable pub gate_text : Gate → List ℕ
gate_text Zero = 32 ∷ 90 ∷ 69 ∷ 82 ∷ 79 ∷ []
gate_text One = 32 ∷ 79 ∷ 78 ∷ 69 ∷ []
gate_text (Not a) = named (32 ∷ 78 ∷ 79 ∷ 84 ∷ 32 ∷ []) a
gate_text (Xor a b) = pair (32 ∷ 88 ∷ 79 ∷ 82 ∷ 32 ∷ []) a b
gate_text (And a b) = pair (32 ∷ 65 ∷ 78 ∷ 68 ∷ 32 ∷ []) a b
gate_text (Mux a b c) = triple (32 ∷ 77 ∷ 85 ∷ 88 ∷ 32 ∷ []) a b c

unfoldable pub gate_line : ℕ → Gate → List ℕ
gate_line w g = decimal w ++ gate_text g ++ newline

-- the gates from wire w on
unfoldable pub gate_lines : ℕ → List Gate → List ℕ
gate_lines w [] = []
gate_lines w (g ∷ gs) = gate_line w g ++ gate_lines (suc w) gs

-- "out w"
unfoldable pub out_line : ℕ → List ℕ
out_line w = named (111 ∷ 117 ∷ 116 ∷ 32 ∷ []) w ++ newline

unfoldable pub out_lines : List ℕ → List ℕ
out_lines [] = []
out_lines (w ∷ ws) = out_line w ++ out_lines ws

unfoldable pub net_text : Net → List ℕ
net_text net =
    sizes net.inputs (length net.gates) (length net.outs)
    ++ costs (depth net) (mults net)
    ++ gate_lines net.inputs net.gates
    ++ out_lines net.outs

-- "refused 13" and a newline
abbrev pub refusal : List ℕ
refusal = 114 ∷ 101 ∷ 102 ∷ 117 ∷ 115 ∷ 101 ∷ 100 ∷ 32 ∷ 49 ∷ 51 ∷ 10 ∷ []

unfoldable pub threshold_text : ℕ → ℕ → List ℕ
threshold_text d n = choose (no_threshold d n) refusal (title_line d n ++ net_text (threshold_net d n))

unfoldable pub text_of : Option Line → List ℕ
text_of None = refusal
text_of (Some a) = threshold_text a.d a.n

-- what is printed on a whole input
unfoldable pub printed : List ℕ → List ℕ
printed input = text_of (asked_of input)

-- What a call that was to give a text returns, the text's length where there is room, and what it leaves in the result: the
-- rules' 8 where there is none. Lists: 1 the input, 2 the result.
pub record Kept (text old : List ℕ) (r : Result ℕ Refusal) (new : List ℕ) : Type 0 where
  pub answered : r ≡ giving (room_answer 2 (length old) (length text)) (length text)
  pub written : new ≡ left (room_answer 2 (length old) (length text)) text old

-- a call that was to print for an input
abbrev pub Printed : List ℕ → List ℕ → Result ℕ Refusal → List ℕ → Type 0
Printed input old r new = Kept (printed input) old r new
