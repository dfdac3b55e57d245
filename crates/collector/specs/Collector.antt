-- What the calls for C answer and leave: the outcomes of crate frames, each answer in one number.
use Rattle.std.specs.Prelude.{ℕ, ◌≡◌, List, length}
use Rattle.answer.specs.Fronts.{left}
use Rattle.instance.specs.Keys.{key_in}
use Rattle.daemon.specs.Packed.{packed_of}
use Rattle.sequence.specs.Files.{frames_in}
use Rattle.frames.specs.Frames.{frame_of, records_in, append_answer, append_after_answer, frames_read_answer}

pub record AppendedPacked (key rec iv s out : List ℕ) (r : ℕ) (out' : List ℕ) : Type 0 where
  pub answered : r ≡ packed_of (append_answer key rec iv s (length out))
  pub written : out' ≡ left (append_answer key rec iv s (length out)) (frame_of (key_in 6 key) rec iv) out

pub record AppendedAfterPacked (key rec iv last out : List ℕ) (r : ℕ) (out' : List ℕ) : Type 0 where
  pub answered : r ≡ packed_of (append_after_answer key rec iv last (length out))
  pub written : out' ≡ left (append_after_answer key rec iv last (length out)) (frame_of (key_in 6 key) rec iv) out

pub record ReadPacked (key s out : List ℕ) (r : ℕ) (out' : List ℕ) : Type 0 where
  pub answered : r ≡ packed_of (frames_read_answer key s (length out))
  pub written : out' ≡ left (frames_read_answer key s (length out)) (records_in (key_in 6 key) s (frames_in s)) out
