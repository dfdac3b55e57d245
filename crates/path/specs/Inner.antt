-- Inner: only contracts of private functions cite this. What the judges and the writers of the path speak of.
use Rattle.std.specs.Prelude.{ℕ, List, take, eqb, Err, Ok}
use Rattle.answer.specs.declared.Refusal.{Refusal}
use Rattle.answer.specs.Answers.{Answer, ◌▹◌}
use Rattle.answer.specs.Judges.{length_answer}
use Rattle.answer.specs.Choose.{choose}
use Rattle.netlist.specs.Words.{counts_of, word_count}
use Rattle.instance.specs.Judging.{numbers_answer, wiring_lengths}
use Rattle.instance.specs.Keys.{key_length_answer}

-- a refusal whose list from is counted as to, and an answer so
abbrev pub renamed : ℕ → ℕ → Refusal → Refusal
renamed from to e = record { reason = e.reason; list = choose (eqb e.list from) to e.list; place = e.place }

unfoldable pub renamed_to : ℕ → ℕ → Answer → Answer
renamed_to from to (Ok _) = Ok tt
renamed_to from to (Err e) = Err (renamed from to e)

-- 1, 2, and 3 on the four lists that enciphering takes, of these lengths
unfoldable pub sizes_answer : ℕ → ℕ → ℕ → ℕ → ℕ → ℕ → Answer
sizes_answer inst m k r i w =
    numbers_answer inst m ▹ key_length_answer 1 inst k ▹ length_answer 2 r m ▹ wiring_lengths 3 inst m i w

-- how many words the netlist at the front of a list has, and these words
abbrev pub front_size : List ℕ → ℕ
front_size ws = word_count (counts_of ws)

unfoldable pub front : List ℕ → List ℕ
front ws = take (front_size ws) ws
