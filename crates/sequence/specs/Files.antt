-- Files of port frames and how they are judged: docs/RULES.md, "Frames", with its numbers. What a frame holds besides its
-- mark and its IV is no matter here.
use Rattle.answer.specs.declared.Reason.TheVariants.{Frame, Order}
use Rattle.std.specs.Prelude.{ℕ, zero, suc, ◌+◌, ◌*◌, ◌/◌, Bool, true, false, not, List, length, ◌==◌, nat_le, nat_lt, slice_index}
use Rattle.answer.specs.Answers.{Answer, ◌▹◌, refuse, each}
use Rattle.answer.specs.Choose.{choose}
use Rattle.port.specs.Bytes.{value_at}

-- P
abbrev pub byte_p : ℕ
byte_p = 80

-- T
abbrev pub byte_t : ℕ
byte_t = 84

-- the bytes of a frame
abbrev pub frame_size : ℕ
frame_size = 26

-- ---- a file: frames end to end

-- where frame k begins
abbrev pub start : ℕ → ℕ
start k = frame_size * k

-- how many frames begin in a file, a last one that is cut among them
abbrev pub frames_in : List ℕ → ℕ
frames_in s = (length s + 25) / frame_size

-- a whole frame with its mark begins at p
unfoldable pub frame_begins : List ℕ → ℕ → Bool
frame_begins s p =
    choose (nat_le (p + frame_size) (length s)) (choose (slice_index s p == byte_p) (slice_index s (p + 1) == byte_t) false) false

-- the IV of frame k, read as a number, high byte first
unfoldable pub iv_number : List ℕ → ℕ → ℕ
iv_number s k = value_at 256 s (start k + 2) 16

-- it is above the one before, where there is one
unfoldable pub rises : List ℕ → ℕ → Bool
rises s zero = true
rises s (suc k) = nat_lt (iv_number s k) (iv_number s (suc k))

-- the word that eight bytes from p on make, high byte first; 0 where there are not eight
unfoldable pub iv_word_at : List ℕ → ℕ → ℕ
iv_word_at s p = choose (nat_le (p + 8) (length s)) (value_at 256 s p 8) 0

-- ---- the answers; l is the file's place among the lists of a call

-- at the frame's start: 15, bad mark or cut frame; then 16, IV not above the one before
unfoldable pub frame_answer : ℕ → List ℕ → ℕ → Answer
frame_answer l s k = refuse Frame l (start k) (not (frame_begins s (start k))) ▹ refuse Order l (start k) (not (rises s k))

-- the whole file, in file order
unfoldable pub file_answer : ℕ → List ℕ → Answer
file_answer l s = each (frames_in s) (frame_answer l s)
