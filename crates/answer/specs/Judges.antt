-- Judges that calls share: a list's length, the first place that is not as it should be, the room for a result. In each, l is the
-- list of the call that is judged.
use Rattle.std.specs.Prelude.{ℕ, Bool, not, List, length, ltb, eqb}
use Rattle.answer.specs.declared.Reason.{Reason}
use Rattle.answer.specs.declared.Reason.TheVariants.{Length, Room}
use Rattle.answer.specs.Answers.{Answer, refuse}
use Rattle.answer.specs.First.{first}

-- 3: a length that is not the exact one
unfoldable pub length_answer : ℕ → ℕ → ℕ → Answer
length_answer l len n = refuse Length l len (not (eqb len n))

-- a refusal at the first place of s at which p holds
unfoldable pub first_answer : Reason → ℕ → (ℕ → Bool) → List ℕ → Answer
first_answer reason l p s = refuse reason l (first p (length s)) (ltb (first p (length s)) (length s))

-- 8: a result list that is too short
unfoldable pub room_answer : ℕ → ℕ → ℕ → Answer
room_answer l len needed = refuse Room l len (ltb len needed)
