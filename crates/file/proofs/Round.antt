-- Reading what was written returns the words; writing what was read returns the bytes; a check answers as reading does.
-- Stated over what the calls promise.
use Prim.Native.Nat.{ℕ, ◌+◌, ◌*◌, ◌≤◌}
use mathlib.Core.Path.{◌≡◌, refl, sym, ◌∙◌, ap}
use mathlib.Core.Bool.{Bool, not}
use mathlib.Core.List.{List}
use native.Mathlib.Omega.{arith}
use lib.ListN.{length, take}
use borrow.Author.Tests.{le-ltb, eq-eqb}
use Rattle.std.specs.Prelude.{Ok, Option, Some, None}
use Rattle.answer.specs.declared.Reason.TheVariants.{File, Netlist}
use Rattle.answer.specs.Answers.{Answer, refused, ◌▹◌, refuse, number_of}
use Rattle.answer.specs.Fronts.{over, left}
use Rattle.answer.proofs.Every.{row_has, refuse_has, each_has}
use Rattle.answer.proofs.Rows.{first_done, then_done, both, refuse_not}
use Rattle.answer.proofs.Judges.{done_room}
use Rattle.answer.proofs.Over.{take-over}
use Rattle.netlist.specs.declared.counts.Counts.{Counts}
use Rattle.netlist.specs.Gates.{taken_of}
use Rattle.netlist.specs.Words.{header_words, counts_of, gates_of, outputs_of, word_count}
use Rattle.netlist.specs.Check.{operand_answer, taken_answer, words_answer, counts_answer, wires_answer, net_answer}
use Rattle.netlist.specs.Sound.{Limits, Sound}
use Rattle.netlist.proofs.Accepted.{done_sound}
use Rattle.records.specs.declared.form.Form.{Form}
use Rattle.records.specs.declared.form.Form.TheVariants.{Full}
use Rattle.records.specs.File.{width_of, head_size, out_size, counts_in, words_in, record_answer, gate_record, out_record, outs_answer, records_answer, head_answer, body_answer, read_answer, check_answer}
use Rattle.records.proofs.Joined.{joined_length}
use Rattle.records.proofs.Found.{words-length}
use Rattle.records.proofs.Judged.{check_framed, read_done}
use Rattle.file.specs.Bytes.{Bytes}
use Rattle.file.specs.File.{gate_bytes, file_of, write_answer, ReadAs, WrittenAs}
use Rattle.file.proofs.Written.{gate_length, file_length, limits_done, words_back, check_written, room_written}
use Rattle.file.proofs.Again.{file_again}
use Rattle.netlist.specs.declared.gate.Gate.{Gate}

-- ---- the check beside the reading

-- where there is room for the words, both answer the same
pub room_check : (form : Form) (s : List ℕ) (n : ℕ) → word_count (counts_in s) ≤ n → read_answer form s n ≡ check_answer form s
unfolding read_answer check_answer ◌▹◌
room_check form s n h = rw (done_room 2 n (word_count (counts_in s)) h)

pub check_as_read : (form : Form) (s result : List ℕ) {r : Answer} {result' : List ℕ} → ReadAs form s result r result'
    → word_count (counts_in s) ≤ length result → r ≡ check_answer form s
check_as_read form s result a h = a.answered ∙ room_check form s (length result) h

-- a check answers done, or 9 or 12 on list 1: what these have, it has
module _ (P : Answer → Type 0) (d : P (Ok tt)) (x9 : (p : ℕ) → P (refused Netlist 1 p)) (x12 : (p : ℕ) → P (refused File 1 p)) where
  refuse9 : (p : ℕ) (b : Bool) → P (refuse Netlist 1 p b)
  refuse9 p b = refuse_has P d Netlist 1 p b (x9 p)

  refuse12 : (p : ℕ) (b : Bool) → P (refuse File 1 p b)
  refuse12 p b = refuse_has P d File 1 p b (x12 p)

  taken_has : (t : Option Gate) (a b c w p : ℕ) → P (taken_answer t a b c w 1 p)
  unfolding taken_answer operand_answer
  taken_has None a b c w p = x9 p
  taken_has (Some g) a b c w p = row_has P _ _ (refuse9 _ _) (row_has P _ _ (refuse9 _ _) (refuse9 _ _))

  words_has : (k a b c w p : ℕ) → P (words_answer k a b c w 1 p)
  unfolding words_answer
  words_has k a b c w p = taken_has (taken_of k a b c) a b c w p

  counts_has : (c : Counts) → P (counts_answer 1 c)
  counts_has c = row_has P _ _ (refuse9 _ _) (row_has P _ _ (refuse9 _ _) (refuse9 _ _))

  wires_has : (ws : List ℕ) (c : Counts) → P (wires_answer 1 ws c)
  wires_has ws c =
      row_has P _ _ (each_has P d c.gates _ (λ g. words_has _ _ _ _ _ _)) (each_has P d c.outputs _ (λ o. refuse9 _ _))

  record_has : (s : List ℕ) (p letter size : ℕ) → P (record_answer s p letter size)
  unfolding record_answer
  record_has s p letter size = refuse12 p _

  records_has : (form : Form) (s : List ℕ) → P (records_answer form s)
  unfolding records_answer outs_answer gate_record out_record
  records_has form s =
      row_has P _ _ (each_has P d _ _ (λ g. record_has s _ _ _)) (row_has P _ _ (each_has P d _ _ (λ o. record_has s _ _ _)) (refuse12 _ _))

  pub check_has : (form : Form) (s : List ℕ) → P (check_answer form s)
  unfolding check_answer head_answer body_answer
  check_has form s =
      row_has P _ _ (row_has P _ _ (record_has s _ _ _) (counts_has (counts_in s)))
      (row_has P _ _ (records_has form s) (wires_has (words_in form s) (counts_in s)))

-- so never 8
pub check_never_8 : (form : Form) (s : List ℕ) → number_of (check_answer form s) ≡ 8 → ⊥
check_never_8 = check_has (λ a. number_of a ≡ 8 → ⊥) (λ e. omega arith) (λ p e. omega arith) (λ p e. omega arith)

-- ---- what was read is a netlist

net_done : (l : ℕ) (ws : List ℕ) → length ws ≡ word_count (counts_of ws) → Limits (counts_of ws) → wires_answer l ws (counts_of ws) ≡ Ok tt → net_answer l ws ≡ Ok tt
unfolding net_answer
net_done l ws e m w =
    let h : header_words ≤ length ws = omega arith in
    both (refuse_not _ _ _ (le-ltb _ _ h)) (both (limits_done l _ m) (both (refuse_not _ _ _ (ap not (eq-eqb _ _ e))) w))

check_net : (form : Form) (s : List ℕ) → check_answer form s ≡ Ok tt → net_answer 1 (words_in form s) ≡ Ok tt
unfolding check_answer body_answer words_in
check_net form s e =
    net_done 1 (words_in form s) (words-length form s) (check_framed form s e).limits (then_done _ _ (then_done _ _ e))

-- the words in an accepted file are sound
pub check_sound : (form : Form) (s : List ℕ) → check_answer form s ≡ Ok tt → Sound (words_in form s)
check_sound form s e = done_sound 1 (words_in form s) (check_net form s e)

pub read_sound : (form : Form) (s result : List ℕ) {r : Answer} {result' : List ℕ} → ReadAs form s result r result' → r ≡ Ok tt → Sound (words_in form s)
read_sound form s result a d = check_sound form s (read_done form s (length result) (sym a.answered ∙ d)).0

-- ---- the two trips

written_sound : (form : Form) (net : List ℕ) (n : ℕ) → write_answer form net n ≡ Ok tt → Sound net
unfolding write_answer
written_sound form net n e = done_sound 1 net (first_done _ _ e)

front : (r : Answer) (new old : List ℕ) {now : List ℕ} → r ≡ Ok tt → now ≡ left r new old → take (length new) now ≡ new
unfolding left
front r new old d e = rw (e, d) (take-over new old)

-- a netlist written into out, and the front of out read into result: the netlist stands there
pub written_then_read : (form : Form) (net out result : List ℕ) {w r : Answer} {out' result' : List ℕ} → WrittenAs form net out w out' → w ≡ Ok tt
    → length net ≤ length result → ReadAs form (take (length (file_of form net)) out') result r result'
    → (r ≡ Ok tt) × (result' ≡ over net result)
unfolding left
written_then_read form net out result {w} {r} {out'} {result'} a d h b =
    let s = written_sound form net (length out) (sym a.answered ∙ d) in
    let f : take (length (file_of form net)) out' ≡ file_of form net = front w (file_of form net) out d a.written in
    let room : word_count (counts_in (file_of form net)) ≤ length result = omega (arith, room_written form net s) in
    let k : r ≡ Ok tt = b.answered ∙ rw f (room_check form (file_of form net) (length result) room ∙ check_written form net s) in
    (k, b.written ∙ rw (k, f, words_back form net s))

-- a file read into result, and the front of result written into out: the file stands there
pub read_then_written : (form : Form) (s result out : List ℕ) {r w : Answer} {result' out' : List ℕ} → Bytes s → ReadAs form s result r result' → r ≡ Ok tt
    → length s ≤ length out → WrittenAs form (take (length (words_in form s)) result') out w out'
    → (w ≡ Ok tt) × (out' ≡ over s out)
unfolding left write_answer
read_then_written form s result out {r} {w} {result'} {out'} b a d h c =
    let e = (read_done form s (length result) (sym a.answered ∙ d)).0 in
    let f : take (length (words_in form s)) result' ≡ words_in form s = front r (words_in form s) result d a.written in
    let g : file_of form (words_in form s) ≡ s = file_again form s b (check_framed form s e) in
    let k : w ≡ Ok tt = c.answered ∙ rw (f, g) (both (check_net form s e) (done_room 2 _ _ h)) in
    (k, c.written ∙ rw (k, f, g))

-- how long a file is
full_width : (k : ℕ) → width_of Full k ≡ 3
unfolding width_of
full_width k = refl

pub full_length : (net : List ℕ) → length (file_of Full net) ≡ head_size + 15 * gates_of net + out_size * outputs_of net
full_length net =
    omega (arith, file_length Full net, joined_length (gates_of net) 15 (gate_bytes Full net) (λ g. gate_length Full net g ∙ rw (full_width _)))
