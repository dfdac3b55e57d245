-- Inner: only contracts of private functions cite this. How lists are counted.
use Rattle.answer.specs.Answers.{Answer, refused}
use Rattle.std.specs.Prelude.{◌-◌, ltb, Err, Ok}
use Rattle.answer.specs.Choose.{choose}

-- an answer of a cipher call, whose list 3 are the indices, counted without them
unfoldable pub without_indices : Answer → Answer
without_indices (Ok _) = Ok tt
without_indices (Err e) = refused e.reason (choose (ltb 3 e.list) (e.list - 1) e.list) e.place
