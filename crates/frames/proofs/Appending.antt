-- What is said of several calls: appending and reading, the last frame in place of the file, checking and reading.
use Prim.Native.Nat.{ℕ, zero, suc, ◌+◌, ◌*◌, ◌-◌, ◌<◌, ◌≤◌}
use mathlib.Core.Path.{◌≡◌, refl, sym, ap, ap₂, ◌∙◌}
use mathlib.Core.Bool.{Bool, true, false, not}
use mathlib.Core.Logic.{⊎_elim}
use mathlib.Core.List.{List, [], ◌++◌}
use native.Mathlib.Nat.{eq-or-lt_of_le}
use native.Mathlib.Numerals.{add-one}
use native.Mathlib.Omega.{arith}
use lib.ListN.{length, get_or, take, length-drop}
use lib.Seq.{get_or-drop}
use lib.Dec.{ltb, eqb}
use borrow.Author.Tests.{lt-ltb, ltb-true}
use Rattle.std.specs.Prelude.{Err, Ok}
use Rattle.answer.specs.declared.Reason.{Reason}
use Rattle.answer.specs.declared.Reason.TheVariants.{Length, Bit, Room, Frame, Order}
use Rattle.answer.specs.Answers.{Answer, reason_number, ◌▹◌, refuse, each}
use Rattle.answer.specs.Bits.{bits_answer}
use Rattle.answer.specs.Choose.{choose}
use Rattle.answer.specs.Fronts.{over, left}
use Rattle.answer.proofs.Over.{take-over, made}
use Rattle.answer.proofs.Rows.{refuse_not, pass}
use Rattle.answer.specs.Judges.{length_answer, first_answer, room_answer}
use Rattle.answer.proofs.Judges.{done_room}
use Rattle.instance.specs.Keys.{Keyed, key_in, key_length_answer, key_bits_answer}
use Rattle.instance.proofs.Keys.{keyed_length, keyed_bits}
use Rattle.port.specs.Bytes.{value_at, unpacked}
use Rattle.sequence.specs.Files.{frame_size, start, frames_in, frame_begins, iv_number, rises, frame_answer, file_answer}
use Rattle.sequence.proofs.Judged.{begins_marked, begins_there, frame_done, file_done, file_begins, file_rises}
use Rattle.frames.specs.Frames.{frame_of, iv_value, above, records_in, new_answer, lengths_answer, three_bits_answer, end_answer, append_answer, last_answer, append_after_answer, frames_read_answer, Appended, AppendedAfter, FramesRead, Rising, frames_of, end_to_end, last_of, on_list, sixteen_at}
use Rattle.frames.specs.Inner.{Whole}
use Rattle.port.proofs.Digits.{digits_agree, digits_unpacked}
use Rattle.frames.proofs.Judged.{append-lent, lent-append, lent_read, file_whole, last_none, last_whole}
use Rattle.frames.proofs.Places.{frame_length, more_frames, more_file, new_iv, new_records}

-- ---- an answer about another list

on_list-row : (l : ℕ) (a b : Answer) → on_list l (a ▹ b) ≡ on_list l a ▹ on_list l b
unfolding on_list ◌▹◌
on_list-row l (Ok _) b = refl
on_list-row l (Err r) b = refl

on_list-refuse : (l : ℕ) (n : Reason) (m p : ℕ) (b : Bool) → on_list l (refuse n m p b) ≡ refuse n l p b
unfolding on_list refuse
on_list-refuse l n m p true = refl
on_list-refuse l n m p false = refl

frame_on_list : (l m : ℕ) (s : List ℕ) (k : ℕ) → on_list l (frame_answer m s k) ≡ frame_answer l s k
unfolding frame_answer
frame_on_list l m s k = on_list-row l _ _ ∙ ap₂ ◌▹◌ (on_list-refuse l Frame m (start k) _) (on_list-refuse l Order m (start k) _)

each-on_list : (l : ℕ) (f g : ℕ → Answer) → ((k : ℕ) → on_list l (f k) ≡ g k) → (n : ℕ) → on_list l (each n f) ≡ each n g
unfolding each on_list
each-on_list l f g h zero = refl
each-on_list l f g h (suc n) = on_list-row l (each n f) (f n) ∙ ap₂ ◌▹◌ (each-on_list l f g h n) (h n)

-- a file is judged alike on any list
pub file_on_list : (l m : ℕ) (s : List ℕ) → on_list l (file_answer m s) ≡ file_answer l s
unfolding file_answer
file_on_list l m s = each-on_list l (frame_answer m s) (frame_answer l s) (frame_on_list l m s) (frames_in s)

pub relisted : (m l : ℕ) (s : List ℕ) → file_answer m s ≡ Ok tt → file_answer l s ≡ Ok tt
unfolding on_list
relisted m l s e = sym (file_on_list l m s) ∙ ap (on_list l) e

-- ---- a frame that was appended

-- what a call that is done leaves at the front of its room
pub frame_left : (key rec iv s out : List ℕ) {out' : List ℕ} → Appended key rec iv s out (Ok tt) out' → take frame_size out' ≡ frame_of (key_in 6 key) rec iv
unfolding left
frame_left key rec iv s out a =
    let frame = frame_of (key_in 6 key) rec iv in
    ap (take frame_size) a.written ∙ ap (λ (n : ℕ). take n (over frame out)) (sym (frame_length (key_in 6 key) rec iv)) ∙ take-over frame out

-- What `append` accepts, put at the file's end, is a file that `read` accepts; it gives the records from before and then the
-- new one.
pub append_then_read : (key rec iv s out recs : List ℕ) {r : Answer} {out' recs' : List ℕ} → Appended key rec iv s out (Ok tt) out'
    → FramesRead key (s ++ take frame_size out') recs r recs' → 64 * (frames_in s + 1) ≤ length recs
    → (r ≡ Ok tt) × (recs' ≡ over (records_in (key_in 6 key) s (frames_in s) ++ rec) recs)
append_then_read key rec iv s out recs {r} {out'} {recs'} a x h =
    let l = append-lent key rec iv s (length out) (sym a.answered) in
    let w = file_whole 4 s l.file in
    let bits = key_in 6 key in
    let more = s ++ frame_of bits rec iv in
    let y : FramesRead key more recs r recs' = rw (frame_left key rec iv s out a) at x in
    let file = more_file s bits rec iv w 4 2 l.file l.rise in
    let d : r ≡ Ok tt = y.answered ∙ lent_read key more (length recs) record {
      keyed = l.keyed;
      file = file;
      whole = file_whole 2 more file;
      room = omega (arith, more_frames s bits rec iv w);
    } in
    (d, y.written ∙ sym (made _ _ d) ∙ ap (λ (t : List ℕ). over t recs) (new_records s bits rec iv w l.record_bits l.iv_bits))

-- ---- from nothing

module _ (key : List ℕ) (rec iv : ℕ → List ℕ) where
  abbrev bits : List ℕ
  bits = key_in 6 key

  -- the file of the first k of them: k frames in order, the last with the last IV
  record Filed (k : ℕ) : Type 0 where
    file : file_answer 4 (frames_of bits rec iv k) ≡ Ok tt
    frames : frames_in (frames_of bits rec iv k) ≡ k
    records : records_in bits (frames_of bits rec iv k) k ≡ end_to_end rec k
    last : (j : ℕ) → k ≡ suc j → iv_number (frames_of bits rec iv k) j ≡ iv_value (iv j)

  filed_none : Filed 0
  unfolding frames_of end_to_end records_in file_answer each
  filed_none = record { file = refl; frames = refl; records = refl; last = λ j e. absurd (omega arith) }

  module _ (n : ℕ) (g : Rising rec iv n) where
    -- so the next IV is above the last one
    above_last : (k : ℕ) → k < n → Filed k → above (frames_of bits rec iv k) k (iv k) ≡ true
    unfolding above
    above_last zero h f = refl
    above_last (suc k) h f =
        lt-ltb (iv_number (frames_of bits rec iv (suc k)) k) (iv_value (iv (suc k))) (rw (f.last k refl) (g.rise k h))

    next_done : (k : ℕ) → k < n → Filed k → new_answer 4 (frames_of bits rec iv k) (iv k) ≡ Ok tt
    unfolding new_answer
    next_done k h f =
        refuse_not Order 4 _ (ap not (ap (λ (i : ℕ). above (frames_of bits rec iv k) i (iv k)) f.frames ∙ above_last k h f))

    filed : (k : ℕ) → k ≤ n → Filed k
    unfolding frames_of end_to_end
    filed zero h = filed_none
    filed (suc k) h =
        let f = filed k (omega arith) in
        let s = frames_of bits rec iv k in
        let w = file_whole 4 s f.file in
        let e : frames_in (s ++ frame_of bits (rec k) (iv k)) ≡ suc k = more_frames s bits (rec k) (iv k) w ∙ ap (λ (i : ℕ). i + 1) f.frames ∙ add-one k in
        record {
          file = more_file s bits (rec k) (iv k) w 4 4 f.file (next_done k (omega arith) f);
          frames = e;
          records = ap (records_in bits (s ++ frame_of bits (rec k) (iv k))) (sym e)
              ∙ new_records s bits (rec k) (iv k) w (g.record_bits k (omega arith)) (g.iv-bits k (omega arith))
              ∙ ap (λ (t : List ℕ). t ++ rec k) (ap (records_in bits s) f.frames ∙ f.records);
          last = λ j q.
              let p : j ≡ k = omega arith in
              ap (iv_number (s ++ frame_of bits (rec k) (iv k))) (p ∙ sym f.frames) ∙ new_iv s bits (rec k) (iv k) w ∙ ap (λ (i : ℕ). iv_value (iv i)) (sym p);
        }

    -- Each of them is accepted behind those before it.
    pub all_appended : Keyed 6 key → (k : ℕ) → k < n → (room : ℕ) → frame_size ≤ room → append_answer key (rec k) (iv k) (frames_of bits rec iv k) room ≡ Ok tt
    all_appended b k h room l =
        let f = filed k (omega arith) in
        lent-append key (rec k) (iv k) (frames_of bits rec iv k) room
        record {
          keyed = b;
          record_bits = g.record_bits k h;
          iv_bits = g.iv-bits k h;
          room = l;
          file = f.file;
          rise = next_done k h f;
        }

    -- Of the calls: each was lent what the ones before it left, put end to end. From an empty file all are accepted, and
    -- reading gives exactly these records.
    module _ (b : Keyed 6 key) (file room room' : ℕ → List ℕ) (r : ℕ → Answer) (empty : file 0 ≡ [])
        (called : (k : ℕ) → k < n → Appended key (rec k) (iv k) (file k) (room k) (r k) (room' k))
        (space : (k : ℕ) → k < n → frame_size ≤ length (room k))
        (put : (k : ℕ) → k < n → file (suc k) ≡ file k ++ take frame_size (room' k)) where
      accepted : (k : ℕ) → k < n → file k ≡ frames_of bits rec iv k → r k ≡ Ok tt
      accepted k h e =
          (called k h).answered
          ∙ ap (λ (s : List ℕ). append_answer key (rec k) (iv k) s (length (room k))) e
          ∙ all_appended b k h (length (room k)) (space k h)

      grown : (k : ℕ) → k ≤ n → file k ≡ frames_of bits rec iv k
      unfolding frames_of
      grown zero h = empty
      grown (suc k) h =
          let e = grown k (omega arith) in
          let c : Appended key (rec k) (iv k) (file k) (room k) (Ok tt) (room' k) = rw (accepted k (omega arith) e) at (called k (omega arith)) in
          put k (omega arith) ∙ ap₂ ◌++◌ e (frame_left key (rec k) (iv k) (file k) (room k) c)

      pub appends_accepted : (k : ℕ) → k < n → r k ≡ Ok tt
      appends_accepted k h = accepted k h (grown k (omega arith))

      pub appends_then_read : (out : List ℕ) {q : Answer} {out' : List ℕ} → FramesRead key (file n) out q out' → 64 * n ≤ length out
          → (q ≡ Ok tt) × (out' ≡ over (end_to_end rec n) out)
      appends_then_read out {q} {out'} x h =
          let f = filed n (omega arith) in
          let s = frames_of bits rec iv n in
          let y : FramesRead key s out q out' = rw (grown n (omega arith)) at x in
          let two = relisted 4 2 s f.file in
          let d : q ≡ Ok tt = y.answered ∙ lent_read key s (length out) record {
            keyed = b;
            file = two;
            whole = file_whole 2 s two;
            room = omega (arith, f.frames);
          } in
          (d, y.written ∙ sym (made _ _ d) ∙ ap (λ (t : List ℕ). over t out) (ap (records_in bits s) f.frames ∙ f.records))

-- ---- no IV twice

pub ivs_rise : (l : ℕ) (s : List ℕ) → file_answer l s ≡ Ok tt → (i j : ℕ) → i < j → j < frames_in s → iv_number s i < iv_number s j
unfolding rises
ivs_rise l s f i zero h g = absurd (omega arith)
ivs_rise l s f i (suc j) h g =
    let e : iv_number s j < iv_number s (suc j) = ltb-true _ _ (file_rises l s f (suc j) g) in
    ⊎_elim (λ (q : i ≡ j). rw q e) (λ (q : i < j). omega (arith, ivs_rise l s f i j q (omega arith))) (eq-or-lt_of_le {n = i} {m = j} (omega arith))

-- In a file that is accepted no IV stands twice; its places hold bytes.
pub no_iv_twice : (l : ℕ) (s : List ℕ) → ((i : ℕ) → get_or s i 0 < 256) → file_answer l s ≡ Ok tt → (i j : ℕ) → i < j → j < frames_in s
    → unpacked s (start i + 2) 128 ≡ unpacked s (start j + 2) 128 → ⊥
unfolding iv_number
no_iv_twice l s b f i j h g e =
    let n : (k : ℕ) → iv_number s k ≡ value_at 2 (unpacked s (start k + 2) 128) 0 128 = λ k. sym (digits_unpacked s (start k + 2) 16 (λ q m. b (start k + 2 + q))) in
    let q : iv_number s i ≡ iv_number s j = n i ∙ ap (λ (t : List ℕ). value_at 2 t 0 128) e ∙ sym (n j) in
    omega (arith, ivs_rise l s f i j h g)

-- ---- checking and reading

end_done : (a : Answer) → a ▹ Ok tt ≡ a
unfolding ◌▹◌
end_done (Ok _) = refl
end_done (Err r) = refl

-- `check` answers as `read` does with key and room in order, but for the list's number.
pub check_as_read : (key s : List ℕ) (n : ℕ) → Keyed 6 key → 64 * frames_in s ≤ n → frames_read_answer key s n ≡ on_list 2 (file_answer 1 s)
unfolding frames_read_answer
check_as_read key s n b h =
    passed (keyed_length 1 6 key b) (passed (keyed_bits 1 6 key b) (ap (λ (a : Answer). file_answer 2 s ▹ a) (done_room 3 n (64 * frames_in s) h) ∙ end_done (file_answer 2 s) ∙ sym (file_on_list 2 1 s)))
  where
    passed : {a b c : Answer} → a ≡ Ok tt → b ≡ c → a ▹ b ≡ c
    passed e g = sym (pass e (sym g))

-- ---- the last frame in place of the file

-- 16 with another place, row by row
placed_row : (p : ℕ) (a b : Answer) → sixteen_at p (a ▹ b) ≡ sixteen_at p a ▹ sixteen_at p b
unfolding sixteen_at ◌▹◌
placed_row p (Ok _) b = refl
placed_row p (Err r) b = refl

placed_refuse : (p : ℕ) (n : Reason) (l q : ℕ) (b : Bool) → sixteen_at p (refuse n l q b) ≡ refuse n l (choose (eqb (reason_number n) 16) p q) b
unfolding sixteen_at refuse
placed_refuse p n l q true = refl
placed_refuse p n l q false = refl

lengths_placed : (p : ℕ) (key rec iv : List ℕ) → sixteen_at p (lengths_answer key rec iv) ≡ lengths_answer key rec iv
unfolding lengths_answer key_length_answer length_answer
lengths_placed p key rec iv =
    placed_row p _ _ ∙ ap₂ ◌▹◌ (placed_refuse p Length 1 _ _) (placed_row p _ _ ∙ ap₂ ◌▹◌ (placed_refuse p Length 2 _ _) (placed_refuse p Length 3 _ _))

bits_placed : (p : ℕ) (key rec iv : List ℕ) → sixteen_at p (three_bits_answer key rec iv) ≡ three_bits_answer key rec iv
unfolding three_bits_answer key_bits_answer bits_answer first_answer
bits_placed p key rec iv =
    placed_row p _ _ ∙ ap₂ ◌▹◌ (placed_refuse p Bit 1 _ _) (placed_row p _ _ ∙ ap₂ ◌▹◌ (placed_refuse p Bit 2 _ _) (placed_refuse p Bit 3 _ _))

room_placed : (p n : ℕ) → sixteen_at p (room_answer 5 n frame_size) ≡ room_answer 5 n frame_size
unfolding room_answer
room_placed p n = placed_refuse p Room 5 n _

module _ (s : List ℕ) (l : ℕ) (f : file_answer l s ≡ Ok tt) where
  whole : Whole (frames_in s) s
  whole = file_whole l s f

  -- where the last frame begins
  abbrev from : ℕ
  from = length s - frame_size

  last_length : length (last_of s) ≡ length s - from
  unfolding last_of
  last_length = length-drop from s

  last_at : (i : ℕ) → get_or (last_of s) i 0 ≡ get_or s (from + i) 0
  unfolding last_of
  last_at i = get_or-drop from s i 0

  -- it is missing, or it is a frame with the file's last IV
  none : frames_in s ≡ 0 → length (last_of s) ≡ 0
  none e = omega (arith, last_length, whole.size)

  module _ (k : ℕ) (e : frames_in s ≡ suc k) where
    one_frame : length (last_of s) ≡ frame_size
    one_frame = omega (arith, last_length, whole.size)

    from_start : from ≡ start k
    from_start = omega (arith, whole.size)

    last_iv : iv_number (last_of s) 0 ≡ iv_number s k
    unfolding iv_number
    last_iv =
        digits_agree 256 (last_of s) s (start 0 + 2) (start k + 2) 16
        (λ i h. last_at (2 + i) ∙ ap (λ (j : ℕ). get_or s j 0) (omega (arith, from_start)))

    last_begins : frame_begins (last_of s) (start 0) ≡ true
    last_begins =
        let m = begins_marked s (start k) (file_begins l s f k (omega arith)) in
        begins_there (last_of s) (start 0) (omega (arith, one_frame))
        (last_at 0 ∙ ap (λ (j : ℕ). get_or s j 0) (omega (arith, from_start)) ∙ m.0)
        (last_at 1 ∙ ap (λ (j : ℕ). get_or s j 0) (omega (arith, from_start)) ∙ m.1)

  by_frames : {P : Type 0} → (frames_in s ≡ 0 → P) → ((k : ℕ) → frames_in s ≡ suc k → P) → P
  by_frames {P} a b = go (frames_in s) refl
    where
      go : (n : ℕ) → frames_in s ≡ n → P
      go zero e = a e
      go (suc k) e = b k e

  last_accepted : (m : ℕ) → file_answer m (last_of s) ≡ Ok tt
  unfolding rises
  last_accepted m =
      by_frames
      (λ e. file_done m (last_of s) (λ j h. absurd (omega (arith, none e))))
      (λ k e. file_done m (last_of s)
      (λ j h.
      let z : j ≡ 0 = omega (arith, one_frame k e) in
      rw z (frame_done m (last_of s) 0 (last_begins k e) refl)))

  last_sized : (m : ℕ) → last_answer m (length (last_of s)) ≡ Ok tt
  last_sized m = by_frames (λ e. sym (last_none m _ (none e))) (λ k e. sym (last_whole m _ (one_frame k e)))

  last_above : (iv : List ℕ) → above (last_of s) (frames_in (last_of s)) iv ≡ above s (frames_in s) iv
  unfolding above
  last_above iv =
      by_frames
      (λ e.
      let z : frames_in (last_of s) ≡ 0 = omega (arith, none e) in
      ap (λ (n : ℕ). above (last_of s) n iv) z ∙ sym (ap (λ (n : ℕ). above s n iv) e))
      (λ k e.
      let z : frames_in (last_of s) ≡ 1 = omega (arith, one_frame k e) in
      ap (λ (n : ℕ). above (last_of s) n iv) z ∙ ap (λ (x : ℕ). ltb x (iv_value iv)) (last_iv k e) ∙ sym (ap (λ (n : ℕ). above s n iv) e))

  -- without a last frame there is no 16
  last_place : (m : ℕ) (iv : List ℕ) → refuse Order m (length (last_of s)) (not (above s (frames_in s) iv)) ≡ refuse Order m frame_size (not (above s (frames_in s) iv))
  unfolding above refuse
  last_place m iv =
      by_frames
      (λ e. ap (λ (n : ℕ). refuse Order m (length (last_of s)) (not (above s n iv))) e ∙ sym (ap (λ (n : ℕ). refuse Order m frame_size (not (above s n iv))) e))
      (λ k e. ap (λ (n : ℕ). refuse Order m n (not (above s (frames_in s) iv))) (one_frame k e))

  file_placed : Ok tt ≡ sixteen_at frame_size (file_answer 4 s)
  unfolding sixteen_at
  file_placed = sym (ap (sixteen_at frame_size) (relisted l 4 s f))

  last_new : (m : ℕ) (iv : List ℕ) → new_answer m (last_of s) iv ≡ sixteen_at frame_size (new_answer m s iv)
  unfolding new_answer
  last_new m iv =
      ap (λ (b : Bool). refuse Order m (length (last_of s)) (not b)) (last_above iv)
      ∙ last_place m iv
      ∙ sym (placed_refuse frame_size Order m (length s) (not (above s (frames_in s) iv)))

  -- `append_after`, lent the last frame of a file that `check` accepts, or nothing where it is empty, answers what `append`
  -- does, but for the place of 16.
  pub after_as_append : (key rec iv : List ℕ) (n : ℕ) → append_after_answer key rec iv (last_of s) n ≡ sixteen_at frame_size (append_answer key rec iv s n)
  unfolding append_after_answer append_answer end_answer
  after_as_append key rec iv n =
      let p = frame_size in
      ap₂ ◌▹◌
      (ap (λ (a : Answer). lengths_answer key rec iv ▹ a) (last_sized 4) ∙ end_done (lengths_answer key rec iv) ∙ sym (lengths_placed p key rec iv))
      (ap₂ ◌▹◌ (sym (bits_placed p key rec iv))
      (ap₂ ◌▹◌ (last_accepted 4 ∙ file_placed) (ap₂ ◌▹◌ (last_new 4 iv) (sym (room_placed p n)) ∙ sym (placed_row p _ _)) ∙ sym (placed_row p _ _))
      ∙ sym (placed_row p _ _))
      ∙ sym (placed_row p _ _)

  left_placed : (a : Answer) (front old : List ℕ) → left (sixteen_at frame_size a) front old ≡ left a front old
  unfolding left sixteen_at
  left_placed (Ok _) front old = refl
  left_placed (Err r) front old = refl

  -- And it writes what `append` writes.
  pub after_writes : (key rec iv out : List ℕ) {r q : Answer} {o p : List ℕ} → AppendedAfter key rec iv (last_of s) out r o → Appended key rec iv s out q p
      → (r ≡ sixteen_at frame_size q) × (o ≡ p)
  after_writes key rec iv out {r} {q} x y =
      let e : r ≡ sixteen_at frame_size q = x.answered ∙ after_as_append key rec iv (length out) ∙ sym (ap (sixteen_at frame_size) y.answered) in
      let frame = frame_of (key_in 6 key) rec iv in
      (e, x.written ∙ ap (λ (a : Answer). left a frame out) e ∙ left_placed q frame out ∙ sym y.written)
