-- Laws for the code that judges a file.
use Prim.Native.Nat.{ℕ, zero, suc, ◌+◌, ◌*◌, ◌<◌, ◌≤◌}
use mathlib.Core.Path.{◌≡◌, refl, sym, ◌∙◌, ap}
use mathlib.Core.Bool.{Bool, true}
use mathlib.Core.List.{List}
use native.Mathlib.Omega.{arith}
use native.Mathlib.Numerals.{add-one}
use native.Mathlib.Nat.{add-zero, le_antisymm}
use lib.ListN.{length, get_or}
use lib.Dec.{ltb}
use borrow.Author.Tests.{leb-true, lt-ltb, le-ltb, le-leb, eq-eqb}
use Rattle.std.specs.Prelude.{Result, Ok, Err}
use Rattle.answer.specs.declared.Reason.TheVariants.{File}
use Rattle.answer.specs.declared.Refusal.{Refusal}
use Rattle.answer.specs.Answers.{Answer, refused, each, giving}
use Rattle.answer.specs.Choose.{choose}
use Rattle.answer.proofs.Rows.{first_done, then_done, both, stop, stop_by, go, refuse_yes, refuse_not, each_at, each_stop, withheld, given}
use Rattle.answer.specs.Judges.{room_answer}
use Rattle.answer.proofs.Judges.{room_done}
use Rattle.netlist.specs.declared.counts.Counts.{Counts}
use Rattle.netlist.specs.Words.{gate_place, word_count}
use Rattle.netlist.specs.Check.{words_answer, gate_answer, output_answer, counts_answer, wires_answer}
use Rattle.netlist.specs.Sound.{Limits}
use Rattle.records.specs.declared.form.Form.{Form}
use Rattle.records.specs.declared.Quad.{Quad}
use Rattle.records.specs.Bytes.{word_at, whole_word}
use Rattle.records.specs.File.{byte_n, byte_g, byte_o, mark_of, width_of, head_size, out_size, counts_in, inputs_in, gates_in, outputs_in, record_begins, size_at, start_of, operand_at, four_in, words_in, record_answer, gate_record, out_record, outs_answer, records_answer, head_answer, body_answer, read_answer, check_answer}
use Rattle.records.specs.Whole.{whole_counts, quad_in, gate_there, whole_quad}
use Rattle.records.specs.Inner.{gate_wire, out_wire, GatesThere, Headed, Framed}
use Rattle.records.proofs.Found.{begun, headed, framed, gate_word, output_word}

-- ---- a record

module _ (s : List ℕ) (p letter size : ℕ) where
  pub begins_yes : p + size ≤ length s → get_or s p 0 ≡ byte_n → get_or s (p + 1) 0 ≡ letter → record_begins s p letter size ≡ true
  unfolding record_begins
  begins_yes h a b = simp (le-leb _ _ h, eq-eqb _ _ a, eq-eqb _ _ b)

pub size_is : (form : Form) (s : List ℕ) (p : ℕ) {k w : ℕ} → k ≡ get_or s (p + 2) 0 → w ≡ width_of form k → 3 + 4 * w ≡ size_at form s p
unfolding size_at
size_is form s p e d = rw (← e, ← d)

pub size_least : (form : Form) (s : List ℕ) (p : ℕ) → 3 ≤ size_at form s p
unfolding size_at
size_least form s p = omega arith

pub operand_from : (form : Form) (s : List ℕ) (p j : ℕ) {k w r : ℕ} → k ≡ get_or s (p + 2) 0 → w ≡ width_of form k
    → r ≡ choose (ltb j w) (word_at s (p + 3 + 4 * j)) 0 → r ≡ operand_at form s p j
unfolding operand_at
operand_from form s p j e d h = rw (← e, ← d) h

-- ---- counts, words and gate records taken out

module _ (s : List ℕ) where
  -- for who knows that the bytes are there
  pub whole_counts_lem : {c : Counts} → head_size ≤ length s → c ≡ whole_counts s → c ≡ counts_in s
  unfolding whole_counts
  whole_counts_lem h e = simp (le-leb _ _ h) at e

module _ (s : List ℕ) (p : ℕ) where
  -- for who knows that the bytes are there
  pub whole_word_lem : {x : ℕ} → p + 4 ≤ length s → x ≡ whole_word s p → x ≡ word_at s p
  unfolding whole_word
  whole_word_lem h e = simp (le-leb _ _ h) at e

module _ (form : Form) (s : List ℕ) (p : ℕ) where
  pub quad_is : {k a b c n : ℕ} → k ≡ get_or s (p + 2) 0 → a ≡ operand_at form s p 0 → b ≡ operand_at form s p 1 → c ≡ operand_at form s p 2
      → n ≡ size_at form s p → record { kind = k; a = a; b = b; c = c; size = n } ≡ quad_in form s p
  unfolding quad_in
  quad_is d e f g h = rw (d, e, f, g, h)

  pub quad_size : {q : Quad} → q ≡ quad_in form s p → q.size ≡ size_at form s p
  unfolding quad_in
  quad_size e = ap (λ q. q.size) e

  pub gate_fits : {t : Bool} → t ≡ gate_there form s p → t ≡ true → p + size_at form s p ≤ length s
  unfolding gate_there
  gate_fits e h = leb-true _ _ (sym e ∙ h)

  pub whole_quad_lem : {q : Quad} → p + size_at form s p ≤ length s → q ≡ whole_quad form s p → q ≡ quad_in form s p
  unfolding whole_quad gate_there
  whole_quad_lem h e = simp (le-leb _ _ h) at e

-- ---- loops over gates

pub start_zero : (form : Form) (s : List ℕ) → head_size ≡ start_of form s 0
unfolding start_of
start_zero form s = refl

pub start_next : (form : Form) (s : List ℕ) (g : ℕ) {at n : ℕ} → at ≡ start_of form s g → n ≡ size_at form s at → at + n ≡ start_of form s (g + 1)
unfolding start_of
start_next form s g e h = rw (add-one g, ← e, h)

pub gate_record_at : (form : Form) (s : List ℕ) (g : ℕ) {at n : ℕ} {r : Answer} → at ≡ start_of form s g → n ≡ size_at form s at
    → r ≡ record_answer s at byte_g n → r ≡ gate_record form s g
unfolding gate_record
gate_record_at form s g e d h = rw (← e, ← d, h)

-- a record that is whole ends within the file
pub record_ends : (s : List ℕ) (at letter n : ℕ) {r : Answer} → r ≡ record_answer s at letter n → r ≡ Ok tt → at + n ≤ length s
record_ends s at letter n e h = (begun s at letter n (sym e ∙ h)).fits

-- an answer and the value beside it, told by what was given
pub gave : {X : Type 0} {r : Answer} {s : Result X Refusal} {x y : X} → s ≡ giving r x → s ≡ Ok y → (r ≡ Ok tt) × (y ≡ x)
unfolding giving
gave {r = Ok _} e h = (refl, cc)
gave {r = Err _} e h = absurd (let z : ◌≡◌ {A = ℕ} 0 1 = cc in omega arith)

pub gave_none : {X : Type 0} {r : Answer} {s : Result X Refusal} {e : Refusal} (x : X) → s ≡ giving r x → s ≡ Err e → r ≡ Err e
unfolding giving
gave_none {r = Ok _} x e h = absurd (let z : ◌≡◌ {A = ℕ} 0 1 = cc in omega arith)
gave_none {r = Err _} x e h = cc

pub walk_stop : (form : Form) (s : List ℕ) {n g at k : ℕ} {r : Answer} {w : Result ℕ Refusal} {e : Refusal} → g < n → each g (gate_record form s) ≡ Ok tt
    → at ≡ start_of form s g → k ≡ size_at form s at → r ≡ record_answer s at byte_g k → r ≡ Err e → w ≡ Err e → w ≡ giving (each n (gate_record form s)) (start_of form s n)
walk_stop form s {n} {g} l h a k f x d =
    let y = each_stop n g (gate_record form s) l h (gate_record_at form s g a k f) x in
    withheld (start_of form s n) d (sym y ∙ x)

pub walk_end : (form : Form) (s : List ℕ) {n g at : ℕ} → g ≤ n → n ≤ g → each g (gate_record form s) ≡ Ok tt → at ≡ start_of form s g
    → Ok at ≡ giving (each n (gate_record form s)) (start_of form s n)
walk_end form s {n} {g} {at} h k e a = rw (le_antisymm k h, ← a) (given at e)

-- records that are whole end within the file
walk_fits : (form : Form) (s : List ℕ) (n : ℕ) → head_size ≤ length s → each n (gate_record form s) ≡ Ok tt → start_of form s n ≤ length s
unfolding start_of gate_record
walk_fits form s zero h e = h
walk_fits form s (suc n) h e = (begun _ _ _ _ (each_at _ _ e n (omega arith))).fits

pub there_at : (form : Form) (s : List ℕ) {n g at : ℕ} → GatesThere form s n → g < n → at ≡ start_of form s g → at + size_at form s at ≤ length s
there_at form s {n} {g} t h e = rw e (t.there g h)

pub gates_there : (form : Form) (s : List ℕ) → Framed form s → GatesThere form s (gates_in s)
gates_there form s f = record { there = λ g h. (f.gate g h).fits }

-- the limits, for who took the counts out
pub counted_limits : (form : Form) (s : List ℕ) {c : Counts} → Framed form s → c ≡ counts_in s → Limits c
counted_limits form s f e = rw e f.limits

pub wire_at : (form : Form) (s : List ℕ) (I g : ℕ) {at : ℕ} {q : Quad} {r : Answer} → q ≡ quad_in form s at → at ≡ start_of form s g
    → r ≡ words_answer q.kind q.a q.b q.c (I + g) 1 (gate_place g) → r ≡ gate_wire form s I g
unfolding gate_wire quad_in
wire_at form s I g d e h = rw (← e) (rw d at h)

-- ---- loops over outputs

pub out_record_at : (s : List ℕ) (from o : ℕ) {at : ℕ} {r : Answer} → at ≡ from + out_size * o → r ≡ record_answer s at byte_o out_size → r ≡ out_record s from o
unfolding out_record
out_record_at s from o e h = rw (← e, h)

module _ (s : List ℕ) (from : ℕ) {n o at : ℕ} (h : o ≤ n) (k : n ≤ o) (e : each o (out_record s from) ≡ Ok tt) (a : at ≡ from + out_size * o) where
  pub outs_left : at < length s → refused File 1 at ≡ outs_answer s from n
  unfolding outs_answer
  outs_left l =
      let q : o ≡ n = le_antisymm h k in
      rw (← q, ← a) (go refl e (refuse_yes File 1 at (lt-ltb _ _ l)))

  pub outs_end : length s ≤ at → Ok tt ≡ outs_answer s from n
  unfolding outs_answer
  outs_end l =
      let q : o ≡ n = le_antisymm h k in
      rw (← q, ← a) (go refl e (sym (refuse_not File 1 at (le-ltb _ _ l))))

-- ---- rows

each_same : (n : ℕ) (f g : ℕ → Answer) → ((k : ℕ) → k < n → f k ≡ g k) → each n f ≡ each n g
unfolding each
each_same zero f g h = refl
each_same (suc n) f g h = rw (each_same n f g (λ k l. h k (omega arith)), h n (omega arith))

-- the words judged in the file are those judged in the netlist
gate_same : (form : Form) (s : List ℕ) (I g : ℕ) → g < gates_in s → gate_wire form s I g ≡ gate_answer 1 (words_in form s) I g
unfolding gate_wire four_in
gate_same form s I g h =
    let z : get_or (words_in form s) (gate_place g) 0 ≡ get_or s (start_of form s g + 2) 0 = rw add-zero at (gate_word form s g 0 h (omega arith)) in
    rw (z, gate_word form s g 1 h (omega arith), gate_word form s g 2 h (omega arith), gate_word form s g 3 h (omega arith))

outs_same : (form : Form) (s : List ℕ) (I : ℕ) →
    each (outputs_in s) (out_wire s (start_of form s (gates_in s)) I (gates_in s)) ≡ each (outputs_in s) (output_answer 1 (words_in form s) I (gates_in s))
unfolding out_wire
outs_same form s I = each_same (outputs_in s) _ _ (λ o h. rw (output_word form s o h))

module _ (form : Form) (s : List ℕ) (c : Counts) (e : c ≡ counts_in s) {r : Answer} (h : r ≡ each c.gates (gate_wire form s c.inputs)) where
  gates_row : r ≡ each (gates_in s) (gate_answer 1 (words_in form s) (inputs_in s))
  gates_row = (rw e at h) ∙ each_same (gates_in s) _ _ (gate_same form s (inputs_in s))

  pub wires_stop : {x : Refusal} → r ≡ Err x → r ≡ wires_answer 1 (words_in form s) (counts_in s)
  wires_stop k = stop _ gates_row k

  pub wires_go : (from : ℕ) {q : Answer} → r ≡ Ok tt → from ≡ start_of form s (gates_in s) → q ≡ each c.outputs (out_wire s from c.inputs c.gates)
      → q ≡ wires_answer 1 (words_in form s) (counts_in s)
  wires_go from k f q = go gates_row k ((rw (f, e) at q) ∙ outs_same form s (inputs_in s))

module _ (form : Form) (s : List ℕ) (c : Counts) (e : c ≡ counts_in s) {w : Result ℕ Refusal}
    (t : w ≡ giving (each c.gates (gate_record form s)) (start_of form s c.gates)) where
  walked : w ≡ giving (each (gates_in s) (gate_record form s)) (start_of form s (gates_in s))
  walked = rw e at t

  pub records_stop : {x : Refusal} → w ≡ Err x → w ≡ giving (records_answer form s) (start_of form s (gates_in s))
  unfolding records_answer
  records_stop h = withheld _ h (sym (stop_by _ refl refl (gave_none _ walked h)))

  module _ {from : ℕ} (k : w ≡ Ok from) where
    pub from_fits : head_size ≤ length s → from ≤ length s
    from_fits l = let z = gave walked k in rw z.1 (walk_fits form s (gates_in s) l z.0)

    module _ {r : Answer} (h : r ≡ outs_answer s from c.outputs) where
      row : r ≡ records_answer form s
      unfolding records_answer
      row = let z = gave walked k in go refl z.0 (rw (z.1, e) at h)

      pub outs_stop : {v : Result ℕ Refusal} {x : Refusal} → r ≡ Err x → v ≡ Err x → v ≡ giving (records_answer form s) (start_of form s (gates_in s))
      outs_stop x d = withheld _ d (sym row ∙ x)

      pub records_go : r ≡ Ok tt → Ok from ≡ giving (records_answer form s) (start_of form s (gates_in s))
      records_go x = let z = gave walked k in rw z.1 (given _ (sym row ∙ x))

-- ---- for the calls

module _ (form : Form) (s : List ℕ) where
  pub head_go : {h r : Answer} {c : Counts} → h ≡ record_answer s 0 (mark_of form) head_size → h ≡ Ok tt → c ≡ whole_counts s → r ≡ counts_answer 1 c
      → r ≡ head_answer form s
  unfolding head_answer
  head_go e d k h = go e d (rw (whole_counts_lem s (begun _ _ _ _ (sym e ∙ d)).fits k) at h)

  module _ {w : Result ℕ Refusal} (t : w ≡ giving (records_answer form s) (start_of form s (gates_in s))) where
    pub body_stop : {r : Answer} {e : Refusal} → w ≡ Err e → r ≡ Err e → r ≡ body_answer form s
    unfolding body_answer
    body_stop h d = stop_by _ d refl (gave_none _ t h)

    module _ {from : ℕ} (k : w ≡ Ok from) where
      pub body_from : from ≡ start_of form s (gates_in s)
      body_from = (gave t k).1

      pub body_framed : Headed form s → Framed form s
      body_framed h = framed form s h (gave t k).0

      pub body_go : {r : Answer} → r ≡ wires_answer 1 (words_in form s) (counts_in s) → r ≡ body_answer form s
      unfolding body_answer
      body_go h = go refl (gave t k).0 h

  -- room, where header and counts are accepted
  module _ (room : ℕ) {h r : Answer} {c : Counts} {n : ℕ} (e : h ≡ head_answer form s) (d : h ≡ Ok tt) (k : c ≡ whole_counts s) (l : n ≡ word_count c)
      (f : r ≡ room_answer 2 room n) where
    roomed : r ≡ room_answer 2 room (word_count (counts_in s))
    roomed = rw (l, whole_counts_lem s (headed form s (sym e ∙ d)).head.fits k) at f

    pub room_stop : {x : Refusal} → r ≡ Err x → r ≡ read_answer form s room
    unfolding read_answer
    room_stop g = go e d (stop _ roomed g)

    pub room_go : {q : Answer} → r ≡ Ok tt → q ≡ body_answer form s → q ≡ read_answer form s room
    unfolding read_answer
    room_go g b = go e d (go roomed g b)

-- ---- what is known where nothing was refused

pub check_framed : (form : Form) (s : List ℕ) → check_answer form s ≡ Ok tt → Framed form s
unfolding check_answer body_answer
check_framed form s e = framed form s (headed form s (first_done _ _ e)) (first_done _ _ (then_done _ _ e))

-- reading is done where the check is, and there is room
pub read_done : (form : Form) (s : List ℕ) (n : ℕ) → read_answer form s n ≡ Ok tt → (check_answer form s ≡ Ok tt) × (word_count (counts_in s) ≤ n)
unfolding read_answer check_answer
read_done form s n e =
    let e1 = then_done _ _ e in
    (both (first_done _ _ e) (then_done _ _ e1), room_done 2 n _ (first_done _ _ e1))
