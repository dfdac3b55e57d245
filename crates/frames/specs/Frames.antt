-- Port frames, and calls on files of them: docs/RULES.md, "Frames", in its order and with its numbers.
use Rattle.answer.specs.declared.Reason.TheVariants.{Length, Order}
use Rattle.std.specs.Prelude.{ℕ, zero, suc, ◌+◌, ◌*◌, ◌-◌, ◌<◌, ◌≡◌, Bool, true, not, List, [], ◌∷◌, ◌++◌, length, drop, ltb, eqb, Err, Ok}
use Rattle.answer.specs.Answers.{Answer, reason_number, refused, ◌▹◌, refuse}
use Rattle.answer.specs.Bits.{bits_answer}
use Rattle.answer.specs.Choose.{choose}
use Rattle.answer.specs.Fronts.{left}
use Rattle.answer.specs.Judges.{length_answer, room_answer}
use Rattle.instance.specs.Keys.{key_in, key_length_answer, key_bits_answer}
use Rattle.cipher.specs.Cipher.{encipher_of}
use Rattle.port.specs.Bytes.{value_at, packed, unpacked, BitList}
use Rattle.sequence.specs.Files.{byte_p, byte_t, frame_size, start, frames_in, iv_number, file_answer}

-- ---- a frame: the mark "PT", 16 bytes of IV (IV0 is the high bit of the first byte), 8 bytes of record enciphered with Kreyvium
-- under a key of these bits
unfoldable pub frame_of : List ℕ → List ℕ → List ℕ → List ℕ
frame_of bits rec iv = (byte_p ∷ byte_t ∷ packed 16 iv) ++ packed 8 (encipher_of 6 64 bits rec [] iv)

-- its IV of 128 bits, read as a number, high byte first
unfoldable pub iv_value : List ℕ → ℕ
iv_value iv = value_at 256 (packed 16 iv) 0 16

-- the IV of a new frame behind n frames is above the last one's
unfoldable pub above : List ℕ → ℕ → List ℕ → Bool
above s zero iv = true
above s (suc k) iv = ltb (iv_number s k) (iv_value iv)

-- ---- what is in a file, under a key of these bits

-- the record of frame k: its 8 bytes deciphered under its IV
unfoldable pub record_in : List ℕ → List ℕ → ℕ → List ℕ
record_in bits s k = encipher_of 6 64 bits (unpacked s (start k + 18) 64) [] (unpacked s (start k + 2) 128)

-- the records of the first n frames, end to end
unfoldable pub records_in : List ℕ → List ℕ → ℕ → List ℕ
records_in bits s zero = []
records_in bits s (suc k) = records_in bits s k ++ record_in bits s k

-- ---- the answers; l is the place of the file or of the last frame among the lists of a call

-- 16 of a new frame, whose start is the file's length
unfoldable pub new_answer : ℕ → List ℕ → List ℕ → Answer
new_answer l s iv = refuse Order l (length s) (not (above s (frames_in s) iv))

-- 3 and 4 on key 1, record 2 and IV 3
unfoldable pub lengths_answer : List ℕ → List ℕ → List ℕ → Answer
lengths_answer key rec iv = key_length_answer 1 6 (length key) ▹ length_answer 2 (length rec) 64 ▹ length_answer 3 (length iv) 128

unfoldable pub three_bits_answer : List ℕ → List ℕ → List ℕ → Answer
three_bits_answer key rec iv = key_bits_answer 1 6 key ▹ bits_answer 2 rec ▹ bits_answer 3 iv

-- what comes after 3 and 4: 15 and 16 of the file, which is list 4, 16 of the new frame, and 8 on the room of n bytes for it
unfoldable pub end_answer : List ℕ → List ℕ → ℕ → Answer
end_answer s iv n = file_answer 4 s ▹ new_answer 4 s iv ▹ room_answer 5 n frame_size

-- lists: key, record, IV, file, frame
unfoldable pub append_answer : List ℕ → List ℕ → List ℕ → List ℕ → ℕ → Answer
append_answer key rec iv s n = lengths_answer key rec iv ▹ three_bits_answer key rec iv ▹ end_answer s iv n

-- 3 on a last frame that is neither missing nor of 26 bytes
unfoldable pub last_answer : ℕ → ℕ → Answer
last_answer l len = refuse Length l len (not (choose (eqb len 0) true (eqb len frame_size)))

-- lists: key, record, IV, last frame, frame. The last frame is judged as the file is.
unfoldable pub append_after_answer : List ℕ → List ℕ → List ℕ → List ℕ → ℕ → Answer
append_after_answer key rec iv last n =
    (lengths_answer key rec iv ▹ last_answer 4 (length last)) ▹ three_bits_answer key rec iv ▹ end_answer last iv n

-- lists: key, file, records, for which n places are lent
unfoldable pub frames_read_answer : List ℕ → List ℕ → ℕ → Answer
frames_read_answer key s n = key_length_answer 1 6 (length key) ▹ key_bits_answer 1 6 key ▹ file_answer 2 s ▹ room_answer 3 n (64 * frames_in s)

-- ---- what a call answers and leaves in its result, where a key is lent

pub record Appended (key rec iv s out : List ℕ) (r : Answer) (out' : List ℕ) : Type 0 where
  pub answered : r ≡ append_answer key rec iv s (length out)
  pub written : out' ≡ left r (frame_of (key_in 6 key) rec iv) out

pub record AppendedAfter (key rec iv last out : List ℕ) (r : Answer) (out' : List ℕ) : Type 0 where
  pub answered : r ≡ append_after_answer key rec iv last (length out)
  pub written : out' ≡ left r (frame_of (key_in 6 key) rec iv) out

pub record FramesRead (key s out : List ℕ) (r : Answer) (out' : List ℕ) : Type 0 where
  pub answered : r ≡ frames_read_answer key s (length out)
  pub written : out' ≡ left r (records_in (key_in 6 key) s (frames_in s)) out

-- ---- for what is said of several calls

-- Records and IVs that a file takes one after another: bits, and the IVs rise strictly.
pub record Rising (rec iv : ℕ → List ℕ) (n : ℕ) : Type 0 where
  pub record_bits : (k : ℕ) → k < n → BitList 64 (rec k)
  pub iv-bits : (k : ℕ) → k < n → BitList 128 (iv k)
  pub rise : (k : ℕ) → suc k < n → iv_value (iv k) < iv_value (iv (suc k))

-- the file of n frames appended one after another under a key of these bits, from nothing
unfoldable pub frames_of : List ℕ → (ℕ → List ℕ) → (ℕ → List ℕ) → ℕ → List ℕ
frames_of bits rec iv zero = []
frames_of bits rec iv (suc n) = frames_of bits rec iv n ++ frame_of bits (rec n) (iv n)

-- n records end to end
unfoldable pub end_to_end : (ℕ → List ℕ) → ℕ → List ℕ
end_to_end rec zero = []
end_to_end rec (suc n) = end_to_end rec n ++ rec n

-- the last frame of a file of whole frames; nothing of an empty one
unfoldable pub last_of : List ℕ → List ℕ
last_of s = drop (length s - frame_size) s

-- an answer about another list
unfoldable pub on_list : ℕ → Answer → Answer
on_list l (Ok _) = Ok tt
on_list l (Err r) = refused r.reason l r.place

-- an answer in which 16 has another place
unfoldable pub sixteen_at : ℕ → Answer → Answer
sixteen_at p (Ok _) = Ok tt
sixteen_at p (Err r) = refused r.reason r.list (choose (eqb (reason_number r.reason) 16) p r.place)
