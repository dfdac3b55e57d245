-- What an accepted call was lent.
use Rattle.std.specs.Prelude.{ℕ, ◌≤◌, ◌≡◌, List, Ok}
use Rattle.instance.specs.Keys.{Keyed}
use Rattle.port.specs.Bytes.{BitList}
use Rattle.sequence.specs.Files.{frame_size, file_answer}
use Rattle.frames.specs.Frames.{new_answer}

-- a call that appends a frame to a file, or behind its last frame, with n bytes for the new one
pub record AppendLent (key rec iv s : List ℕ) (n : ℕ) : Type 0 where
  pub keyed : Keyed 6 key
  pub record_bits : BitList 64 rec
  pub iv_bits : BitList 128 iv
  pub room : frame_size ≤ n
  pub file : file_answer 4 s ≡ Ok tt
  pub rise : new_answer 4 s iv ≡ Ok tt
