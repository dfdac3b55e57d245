-- Ordered choice of wires from public draws. docs/RULES.md, "Choice from draws": begin with 0..N-1 in order; for i = 0..n-1 swap places
-- i and i + draw(i), draw(i) below N-i; the row is the first n places. Lists: 1 the draws, 2 the row.
use Rattle.answer.specs.declared.Reason.TheVariants.{Draw, Instance}
use Rattle.std.specs.Prelude.{ℕ, zero, suc, ◌+◌, ◌-◌, ◌≡◌, Bool, List, [], ◌∷◌, ◌++◌, length, get_or, set, take, leb}
use Rattle.answer.specs.Answers.{Answer, ◌▹◌, refuse}
use Rattle.answer.specs.Fronts.{left}
use Rattle.instance.specs.Table.{key_bits, row_bits}
use Rattle.instance.specs.Judging.{outside}
use Rattle.answer.specs.Judges.{length_answer, room_answer, first_answer}

-- 0 .. n - 1 in order
unfoldable pub up_to : ℕ → List ℕ
up_to zero = []
up_to (suc n) = up_to n ++ n ∷ []

-- places i and j exchanged
unfoldable pub swap : ℕ → ℕ → List ℕ → List ℕ
swap i j s = set (set s i (get_or s j 0)) j (get_or s i 0)

-- the swaps that the draws from draw(i) on make, one after the other
unfoldable pub swaps : ℕ → List ℕ → List ℕ → List ℕ
swaps i [] s = s
swaps i (d ∷ ds) s = swaps (suc i) ds (swap i (i + d) s)

-- the first n places of N
unfoldable pub chosen : ℕ → ℕ → List ℕ → List ℕ
chosen N n draws = take n (swaps 0 draws (up_to N))

abbrev pub row_of : ℕ → List ℕ → List ℕ
row_of inst draws = chosen (key_bits inst) (row_bits inst) draws

-- rows end to end, row t chosen from draws t
unfoldable pub rows_of : ℕ → (ℕ → List ℕ) → ℕ → List ℕ
rows_of inst draws zero = []
rows_of inst draws (suc m) = rows_of inst draws m ++ row_of inst (draws m)

-- draw(i) is not below N - i
unfoldable pub past_draw : ℕ → List ℕ → ℕ → Bool
past_draw N draws i = leb (N - i) (get_or draws i 0)

-- 1, 3, 8, 14, where so many words are lent for the row
unfoldable pub choose_answer : ℕ → List ℕ → ℕ → Answer
choose_answer inst draws room =
    refuse Instance 0 0 (outside 1 5 inst)
    ▹ length_answer 1 (length draws) (row_bits inst)
    ▹ room_answer 2 room (row_bits inst)
    ▹ first_answer Draw 1 (past_draw (key_bits inst) draws) draws

-- what a call that was lent draws and row answers, and what it leaves in the row
pub record Chosen (inst : ℕ) (draws row : List ℕ) (r : Answer) (row' : List ℕ) : Type 0 where
  pub answered : r ≡ choose_answer inst draws (length row)
  pub written : row' ≡ left r (row_of inst draws) row
