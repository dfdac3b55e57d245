use Rattle.std.specs.Prelude.{Ok}
use Rattle.std.proofs.Common.{◌≡◌, ◌-◌}
use Rattle.answer.specs.Answers.{each}
use Rattle.sequence.specs.Files.{iv_number, frame_answer}
use Rattle.sequence.proofs.later_frames.Given as goal

abbrev pub invariant-loop-k : goal.invariant-loop-k
invariant-loop-k l = record {
  good : each l.k (frame_answer l.list l.s) ≡ Ok tt;
  carried : l.before ≡ iv_number l.s (l.k - 1);
}
