-- What the calls of emission answer. docs/RULES.md, "What is emitted" and "Answer numbers".
use Rattle.answer.specs.declared.Reason.TheVariants.{Shape}
use Rattle.std.specs.Prelude.{ℕ, ◌+◌, Bool, true, List, length, ltb, eqb, Result}
use Rattle.answer.specs.declared.Refusal.{Refusal}
use Rattle.answer.specs.Answers.{Answer, ◌▹◌, refuse, giving}
use Rattle.answer.specs.Judges.{room_answer}
use Rattle.answer.specs.Bits.{bits_answer}
use Rattle.answer.specs.Choose.{choose}
use Rattle.netlist.specs.Net.{Net}
use Rattle.netlist.specs.Words.{words}
use Rattle.instance.specs.Judging.{numbers_answer, wiring_lengths, wiring_rows}
use Rattle.cells.specs.Cells.{one_hot_net, threshold_net}
use Rattle.wiring.specs.Exp.{chain}
use Rattle.wiring.specs.Decipher.{rows_net}
use Rattle.rounds.specs.Gates.{kreyvium_net}
use Rattle.emit.specs.declared.Size.{Size}

-- 13: n above 64; 8 on the result, for which so many words are lent
unfoldable pub one_hot_answer : ℕ → ℕ → Answer
one_hot_answer n room = refuse Shape 0 0 (ltb 64 n) ▹ room_answer 1 room (length (words (one_hot_net n)))

-- n above 64, d = 0 or d > n+1
unfoldable pub no_threshold : ℕ → ℕ → Bool
no_threshold d n = choose (ltb 64 n) true (choose (eqb d 0) true (ltb (n + 1) d))

unfoldable pub threshold_answer : ℕ → ℕ → ℕ → Answer
threshold_answer d n room = refuse Shape 0 0 (no_threshold d n) ▹ room_answer 1 room (length (words (threshold_net d n)))

-- the deciphering netlist; products are AND chains from the left
unfoldable pub decipher_net : ℕ → ℕ → List ℕ → List ℕ → Net
decipher_net inst m idx wh = choose (eqb inst 6) (kreyvium_net wh m) (rows_net chain inst idx wh m)

-- lists: indices, whitening or IV, result. 1 to 7
unfoldable pub wiring_answer : ℕ → ℕ → List ℕ → List ℕ → Answer
wiring_answer inst m idx wh =
    numbers_answer inst m ▹ wiring_lengths 1 inst m (length idx) (length wh) ▹ bits_answer 2 wh ▹ wiring_rows 1 inst idx wh

-- and 8
unfoldable pub decipher_answer : ℕ → ℕ → List ℕ → List ℕ → ℕ → Answer
decipher_answer inst m idx wh room =
    wiring_answer inst m idx wh ▹ room_answer 3 room (length (words (decipher_net inst m idx wh)))

-- how many gates and words a netlist has, where the answer is done
abbrev pub size_of : Net → Size
size_of net = record { gates = length net.gates; words = length (words net) }

unfoldable pub sized_by : Answer → Net → Result Size Refusal
sized_by due net = giving due (size_of net)
