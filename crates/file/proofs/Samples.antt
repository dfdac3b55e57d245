-- The rules' one-wire pass-through, read and written, and files that are refused; all by computation.
use Prim.Native.Nat.{ℕ}
use mathlib.Core.Path.{◌≡◌, refl, ◌∙◌}
use mathlib.Core.List.{List, [], ◌∷◌}
use lib.ListN.{length}
use Rattle.std.specs.Prelude.{Ok}
use Rattle.answer.specs.declared.Reason.TheVariants.{File, Netlist}
use Rattle.answer.specs.Answers.{Answer, refused, ◌▹◌, refuse, each}
use Rattle.answer.specs.Fronts.{over, left}
use Rattle.answer.specs.Judges.{room_answer}
use Rattle.netlist.specs.Gates.{taken_of}
use Rattle.netlist.specs.Check.{operand_answer, taken_answer, words_answer, net_answer}
use Rattle.records.specs.declared.form.Form.TheVariants.{Full}
use Rattle.records.specs.Bytes.{word_at, joined}
use Rattle.records.specs.File.{mark_of, width_of, size_at, start_of, operand_at, four_in, out_word, words_in, record_begins, record_answer, gate_record, out_record, outs_answer, records_answer, head_answer, body_answer, read_answer, check_answer}
use Rattle.file.specs.Bytes.{little}
use Rattle.file.specs.File.{words_bytes, head_bytes, out_bytes, file_of, write_answer, ReadAs, WrittenAs}

abbrev pub pass : List ℕ
pass = 1 ∷ 0 ∷ 1 ∷ 0 ∷ []

abbrev pub pass_file : List ℕ
pass_file =
    0x4E ∷ 0x48 ∷ 0x01 ∷ 0x00 ∷ 0x00 ∷ 0x00 ∷ 0x00 ∷ 0x00 ∷ 0x00 ∷ 0x00 ∷ 0x01 ∷ 0x00 ∷ 0x00 ∷ 0x00
    ∷ 0x4E ∷ 0x4F ∷ 0x00 ∷ 0x00 ∷ 0x00 ∷ 0x00 ∷ []

pub pass_bytes : file_of Full pass ≡ pass_file
unfolding little joined mark_of words_bytes head_bytes out_bytes file_of
pass_bytes = refl

pub pass-words : words_in Full pass_file ≡ pass
unfolding word_at joined size_at start_of out_word words_in
pass-words = refl

pass_writes : write_answer Full pass 20 ≡ Ok tt
unfolding ◌▹◌ refuse each net_answer little joined mark_of words_bytes head_bytes out_bytes file_of room_answer write_answer
pass_writes = refl

pass_reads : read_answer Full pass_file 4 ≡ Ok tt
unfolding ◌▹◌ refuse each word_at joined mark_of record_begins size_at start_of out_word words_in record_answer gate_record out_record outs_answer records_answer head_answer room_answer body_answer read_answer
pass_reads = refl

-- the calls, lent just the room that they need
pub pass-written : (out : List ℕ) {r : Answer} {out' : List ℕ} → WrittenAs Full pass out r out' → length out ≡ 20 → (r ≡ Ok tt) × (out' ≡ over pass_file out)
unfolding left
pass-written out {r} a e =
    let k : r ≡ Ok tt = a.answered ∙ rw e pass_writes in
    (k, a.written ∙ rw (k, pass_bytes))

pub pass_read : (out : List ℕ) {r : Answer} {out' : List ℕ} → ReadAs Full pass_file out r out' → length out ≡ 4 → (r ≡ Ok tt) × (out' ≡ over pass out)
unfolding left
pass_read out {r} a e =
    let k : r ≡ Ok tt = a.answered ∙ rw e pass_reads in
    (k, a.written ∙ rw (k, pass-words))

-- a byte left over after 14
pub rest : check_answer Full (0x4E ∷ 0x48 ∷ 1 ∷ 0 ∷ 0 ∷ 0 ∷ 0 ∷ 0 ∷ 0 ∷ 0 ∷ 0 ∷ 0 ∷ 0 ∷ 0 ∷ 9 ∷ []) ≡ refused File 1 14
unfolding ◌▹◌ refuse each word_at joined mark_of record_begins size_at start_of words_in record_answer outs_answer records_answer head_answer body_answer check_answer
rest = refl

-- a header cut by one byte; another mark
pub cut : check_answer Full (0x4E ∷ 0x48 ∷ 1 ∷ 0 ∷ 0 ∷ 0 ∷ 0 ∷ 0 ∷ 0 ∷ 0 ∷ 0 ∷ 0 ∷ 0 ∷ []) ≡ refused File 1 0
unfolding ◌▹◌ refuse mark_of record_begins record_answer head_answer check_answer
cut = refl

pub other_mark : check_answer Full (0x4E ∷ 0x32 ∷ 1 ∷ 0 ∷ 0 ∷ 0 ∷ 0 ∷ 0 ∷ 0 ∷ 0 ∷ 0 ∷ 0 ∷ 0 ∷ 0 ∷ []) ≡ refused File 1 0
unfolding ◌▹◌ refuse mark_of record_begins record_answer head_answer check_answer
other_mark = refl

-- NOT of its own wire: 9 at word 4, its operand's
pub own_wire : check_answer Full
    (0x4E ∷ 0x48 ∷ 1 ∷ 0 ∷ 0 ∷ 0 ∷ 1 ∷ 0 ∷ 0 ∷ 0 ∷ 0 ∷ 0 ∷ 0 ∷ 0
    ∷ 0x4E ∷ 0x47 ∷ 2 ∷ 1 ∷ 0 ∷ 0 ∷ 0 ∷ 0 ∷ 0 ∷ 0 ∷ 0 ∷ 0 ∷ 0 ∷ 0 ∷ 0 ∷ []) ≡ refused Netlist 1 4
unfolding ◌▹◌ refuse each taken_of operand_answer taken_answer words_answer word_at joined mark_of width_of record_begins size_at start_of operand_at four_in words_in record_answer gate_record outs_answer records_answer head_answer body_answer check_answer
own_wire = refl
