-- Reading what was written: the words come back, and the answer is done.
use Prim.Native.Nat.{ℕ, zero, suc, ◌+◌, ◌*◌, ◌<◌, ◌≤◌}
use mathlib.Core.Path.{◌≡◌, refl, sym, ◌∙◌, ap, ap₂}
use mathlib.Core.Bool.{Bool, true, false, not}
use mathlib.Core.List.{List, [], ◌∷◌, ◌++◌, append_assoc}
use native.Mathlib.Omega.{arith}
use native.Mathlib.Nat.{add-zero, add_assoc, zero-add}
use lib.ListN.{length, get_or, length-append, get_or-append}
use lib.Seq.{get_or-append-add}
use lib.Dec.{ltb}
use borrow.Author.Tests.{ltb-true, le-ltb}
use Rattle.std.specs.Prelude.{Ok}
use Rattle.answer.specs.Choose.{choose}
use Rattle.answer.proofs.Rows.{then_done, both, refuse_not, each_done}
use Rattle.netlist.specs.declared.counts.Counts.{Counts}
use Rattle.netlist.specs.Gates.{gate_words, gate_of}
use Rattle.netlist.specs.Words.{header_words, gate_stride, gate_place, header, counts_of, inputs_of, gates_of, outputs_of, word_count}
use Rattle.netlist.specs.Check.{counts_answer, wires_answer, net_answer}
use Rattle.netlist.specs.Sound.{Limits, Sound}
use Rattle.netlist.proofs.Gates.{operands_low}
use Rattle.netlist.proofs.Accepted.{sound_done}
use Rattle.records.specs.declared.form.Form.{Form}
use Rattle.records.specs.declared.form.Form.TheVariants.{Full}
use Rattle.records.specs.Bytes.{word_at, joined}
use Rattle.records.specs.File.{byte_n, byte_g, byte_o, mark_of, width_of, head_size, out_size, counts_in, gates_in, outputs_in, size_at, start_of, operand_at, four_in, out_word, words_in, record_answer, gate_record, out_record, outs_answer, records_answer, head_answer, body_answer, check_answer}
use Rattle.records.proofs.Joined.{joined_at, joined_in, joined_length}
use Rattle.records.proofs.Judged.{begins_yes}
use Rattle.file.specs.Bytes.{little}
use Rattle.file.specs.File.{words_bytes, head_bytes, gate_bytes, out_bytes, file_of}
use Rattle.file.proofs.Joined.{joined_most, part, part-all, joined-part, little-length, word_little}

-- ---- the laws of a form: what every form has to meet

pub width_most : (form : Form) (k : ℕ) → width_of form k ≤ 3
unfolding width_of
width_most Full k = omega arith

-- where four words are a gate's, those that its record leaves out are 0
left_out : (form : Form) (k a b c : ℕ) → gate_words (gate_of k a b c) ≡ k ∷ a ∷ b ∷ c ∷ []
    → (choose (ltb 0 (width_of form k)) a 0 ≡ a) × (choose (ltb 1 (width_of form k)) b 0 ≡ b) × (choose (ltb 2 (width_of form k)) c 0 ≡ c)
unfolding width_of
left_out Full k a b c e = (refl, refl, refl)

-- ---- lengths

pub words_bytes-length : (net : List ℕ) (p n : ℕ) → length (words_bytes net p n) ≡ 4 * n
unfolding words_bytes
words_bytes-length net p n = joined_length n 4 _ (λ i. little-length (get_or net (p + i) 0))

head_length : (form : Form) (net : List ℕ) → length (head_bytes form net) ≡ head_size
unfolding head_bytes
head_length form net = ap (λ k. suc (suc k)) (words_bytes-length net 0 header_words)

pub gate_length : (form : Form) (net : List ℕ) (g : ℕ) → length (gate_bytes form net g) ≡ 3 + 4 * width_of form (get_or net (gate_place g) 0)
unfolding gate_bytes
gate_length form net g = omega (arith, words_bytes-length net (gate_place g + 1) (width_of form (get_or net (gate_place g) 0)))

pub out_length : (net : List ℕ) (o : ℕ) → length (out_bytes net o) ≡ out_size
unfolding out_bytes
out_length net o = ap (λ k. suc (suc k)) (words_bytes-length net (gate_place (gates_of net) + o) 1)

pub file_length : (form : Form) (net : List ℕ) → length (file_of form net) ≡ head_size + length (joined (gates_of net) (gate_bytes form net)) + out_size * outputs_of net
unfolding file_of
file_length form net =
    let h = head_bytes form net in
    let a = joined (gates_of net) (gate_bytes form net) in
    length-append (h ++ a) (joined (outputs_of net) (out_bytes net))
    ∙ omega (arith, length-append h a, head_length form net, joined_length (outputs_of net) out_size (out_bytes net) (out_length net))

-- ---- words in bytes

choose-same : (b : Bool) (x a : ℕ) → (b ≡ true → x ≡ a) → choose b x 0 ≡ choose b a 0
choose-same true x a h = h refl
choose-same false x a h = refl

-- word j of those written from byte q on
words_in_lem : (s net : List ℕ) (q p n j : ℕ) → ((i : ℕ) → i < 4 * n → get_or s (q + i) 0 ≡ get_or (words_bytes net p n) i 0)
    → j < n → get_or net (p + j) 0 < 4294967296 → word_at s (q + 4 * j) ≡ get_or net (p + j) 0
unfolding words_bytes
words_in_lem s net q p n j h l b =
    let f : ℕ → List ℕ = λ j. little (get_or net (p + j) 0) in
    let e : length (joined j f) ≡ 4 * j = joined_length j 4 f (λ i. little-length (get_or net (p + i) 0)) in
    word_little s (q + 4 * j) (get_or net (p + j) 0) b
    (λ i k. rw (add_assoc q (4 * j) i) (h (4 * j + i) (omega arith))
    ∙ ap (λ m. get_or (joined n f) (m + i) 0) (sym e)
    ∙ joined_in n j f i l (rw (little-length (get_or net (p + j) 0)) k))

head_part : (ws : List ℕ) → header (counts_of ws) ≡ part ws 0 header_words
unfolding part
head_part ws = refl

record_done : (s : List ℕ) (p letter size : ℕ) → p + size ≤ length s → get_or s p 0 ≡ byte_n → get_or s (p + 1) 0 ≡ letter → record_answer s p letter size ≡ Ok tt
unfolding record_answer
record_done s p letter size h a b = refuse_not _ _ _ (ap not (begins_yes s p letter size h a b))

pub limits_done : (l : ℕ) (c : Counts) → Limits c → counts_answer l c ≡ Ok tt
limits_done l c s =
    both (refuse_not _ _ _ (le-ltb _ _ s.inputs))
    (both (refuse_not _ _ _ (le-ltb _ _ s.gates)) (refuse_not _ _ _ (le-ltb _ _ s.outputs)))

wires_done : (l : ℕ) (ws : List ℕ) → Sound ws → wires_answer l ws (counts_of ws) ≡ Ok tt
unfolding net_answer
wires_done l ws s = then_done _ _ (then_done _ _ (then_done _ _ (sound_done l ws s)))

-- ---- the records of a written file

module _ (form : Form) (ws : List ℕ) where
  -- the whole, as the header and what follows
  file_parts : file_of form ws ≡ head_bytes form ws ++ (joined (gates_of ws) (gate_bytes form ws) ++ joined (outputs_of ws) (out_bytes ws))
  unfolding file_of
  file_parts = append_assoc (head_bytes form ws) (joined (gates_of ws) (gate_bytes form ws)) (joined (outputs_of ws) (out_bytes ws))

  head_in : (i : ℕ) → i < head_size → get_or (file_of form ws) i 0 ≡ get_or (head_bytes form ws) i 0
  head_in i h = rw file_parts (get_or-append (head_bytes form ws) _ 0 i (rw (head_length form ws) h))

  -- byte i of gate g's record
  gate_in : (g i : ℕ) → g < gates_of ws → i < length (gate_bytes form ws g)
      → get_or (file_of form ws) (head_size + length (joined g (gate_bytes form ws)) + i) 0 ≡ get_or (gate_bytes form ws g) i 0
  gate_in g i h k =
      let m = length (joined g (gate_bytes form ws)) in
      let e : head_size + m + i ≡ length (head_bytes form ws) + (m + i) = omega (arith, head_length form ws) in
      rw (file_parts, e, get_or-append-add (head_bytes form ws)) (joined_at (gates_of ws) g (gate_bytes form ws) _ i h k)

  -- byte i of output o's record
  out_in : (o i : ℕ) → o < outputs_of ws → i < out_size
      → get_or (file_of form ws) (head_size + length (joined (gates_of ws) (gate_bytes form ws)) + out_size * o + i) 0 ≡ get_or (out_bytes ws o) i 0
  unfolding file_of
  out_in o i h k =
      let a = head_bytes form ws ++ joined (gates_of ws) (gate_bytes form ws) in
      let m = joined o (out_bytes ws) in
      let la : length a ≡ head_size + length (joined (gates_of ws) (gate_bytes form ws)) = length-append (head_bytes form ws) _ ∙ rw (head_length form ws) in
      let lm : length m ≡ out_size * o = joined_length o out_size (out_bytes ws) (out_length ws) in
      let e : head_size + length (joined (gates_of ws) (gate_bytes form ws)) + out_size * o + i ≡ length a + (length m + i) = omega arith in
      rw (e, get_or-append-add a) (joined_in (outputs_of ws) o (out_bytes ws) i h (rw (out_length ws o) k))

  kind_at : (g : ℕ) → g < gates_of ws → get_or (file_of form ws) (head_size + length (joined g (gate_bytes form ws)) + 2) 0 ≡ get_or ws (gate_place g) 0
  unfolding gate_bytes
  kind_at g h = gate_in g 2 h (rw (gate_length form ws g) (omega arith))

  gate_mark : (g : ℕ) → g < gates_of ws →
      (get_or (file_of form ws) (head_size + length (joined g (gate_bytes form ws))) 0 ≡ byte_n)
      × (get_or (file_of form ws) (head_size + length (joined g (gate_bytes form ws)) + 1) 0 ≡ byte_g)
  unfolding gate_bytes
  gate_mark g h = (
    rw add-zero at (gate_in g 0 h (rw (gate_length form ws g) (omega arith))),
    gate_in g 1 h (rw (gate_length form ws g) (omega arith)),
  )

  out_mark : (o : ℕ) → o < outputs_of ws →
      (get_or (file_of form ws) (head_size + length (joined (gates_of ws) (gate_bytes form ws)) + out_size * o) 0 ≡ byte_n)
      × (get_or (file_of form ws) (head_size + length (joined (gates_of ws) (gate_bytes form ws)) + out_size * o + 1) 0 ≡ byte_o)
  unfolding out_bytes
  out_mark o h = (rw add-zero at (out_in o 0 h (omega arith)), out_in o 1 h (omega arith))

  -- gate g's record begins after the records before it
  starts : (g : ℕ) → g ≤ gates_of ws → start_of form (file_of form ws) g ≡ head_size + length (joined g (gate_bytes form ws))
  unfolding start_of size_at joined
  starts zero h = refl
  starts (suc g) h =
      rw (starts g (omega arith), kind_at g (omega arith), length-append (joined g (gate_bytes form ws)), gate_length form ws g)
      (omega arith)

  kind_in : (g : ℕ) → g < gates_of ws → get_or (file_of form ws) (start_of form (file_of form ws) g + 2) 0 ≡ get_or ws (gate_place g) 0
  kind_in g h = rw (starts g (omega arith)) (kind_at g h)

  module _ (sound : Sound ws) where
    -- the words that are written as four bytes fit into them
    count_fits : (j : ℕ) → j < header_words → get_or ws (0 + j) 0 < 4294967296
    count_fits zero h = omega (arith, sound.limits.inputs)
    count_fits (suc zero) h = omega (arith, sound.limits.gates)
    count_fits (suc (suc zero)) h = omega (arith, sound.limits.outputs)
    count_fits (suc (suc (suc j))) h = absurd (omega arith)

    operand_fits : (g j : ℕ) → g < gates_of ws → j < 3 → get_or ws (gate_place g + 1 + j) 0 < 4294967296
    operand_fits g j h l =
        let w = operands_low _ _ _ _ (inputs_of ws + g) (sound.uses g h) (sound.whole g h) in
        let m : inputs_of ws + g < 4294967296 = omega (arith, sound.limits.inputs, sound.limits.gates) in
        at j l w.0 w.1 w.2 m
      where
        at : (j : ℕ) → j < 3 → get_or ws (gate_place g + 1) 0 ≤ inputs_of ws + g → get_or ws (gate_place g + 2) 0 ≤ inputs_of ws + g
            → get_or ws (gate_place g + 3) 0 ≤ inputs_of ws + g → inputs_of ws + g < 4294967296 → get_or ws (gate_place g + 1 + j) 0 < 4294967296
        at zero l a b c m = rw add-zero (omega arith)
        at (suc zero) l a b c m = let e : gate_place g + 1 + 1 ≡ gate_place g + 2 = omega arith in rw e (omega arith)
        at (suc (suc zero)) l a b c m = let e : gate_place g + 1 + 2 ≡ gate_place g + 3 = omega arith in rw e (omega arith)
        at (suc (suc (suc j))) l a b c m = absurd (omega arith)

    out_fits : (o : ℕ) → o < outputs_of ws → get_or ws (gate_place (gates_of ws) + o) 0 < 4294967296
    out_fits o h = omega (arith, sound.output o h, sound.limits.inputs, sound.limits.gates)

    -- the counts
    count_in : (j : ℕ) → j < header_words → word_at (file_of form ws) (2 + 4 * j) ≡ get_or ws (0 + j) 0
    unfolding head_bytes
    count_in j h =
        words_in_lem (file_of form ws) ws 2 0 header_words j
        (λ i k. head_in (2 + i) (omega arith) ∙ get_or-append-add (byte_n ∷ mark_of form ∷ []) (words_bytes ws 0 header_words) i 0)
        h (count_fits j h)

    counts_back : counts_in (file_of form ws) ≡ counts_of ws
    counts_back = rw (count_in 0 (omega arith), count_in 1 (omega arith), count_in 2 (omega arith))

    gates_back : gates_in (file_of form ws) ≡ gates_of ws
    gates_back = ap (λ c. c.gates) counts_back

    outputs_back : outputs_in (file_of form ws) ≡ outputs_of ws
    outputs_back = ap (λ c. c.outputs) counts_back

    -- a written operand
    operand_in : (g j : ℕ) → g < gates_of ws → j < width_of form (get_or ws (gate_place g) 0)
        → word_at (file_of form ws) (start_of form (file_of form ws) g + 3 + 4 * j) ≡ get_or ws (gate_place g + 1 + j) 0
    unfolding gate_bytes
    operand_in g j h l =
        let k = get_or ws (gate_place g) 0 in
        let three : j < 3 = omega (arith, width_most form k) in
        rw (starts g (omega arith))
        (words_in_lem (file_of form ws) ws (head_size + length (joined g (gate_bytes form ws)) + 3) (gate_place g + 1) (width_of form k) j
        (λ i m. rw (add_assoc (head_size + length (joined g (gate_bytes form ws))) 3 i)
        (gate_in g (3 + i) h (rw (gate_length form ws g) (omega arith))
        ∙ get_or-append-add (byte_n ∷ byte_g ∷ k ∷ []) (words_bytes ws (gate_place g + 1) (width_of form k)) i 0))
        l (operand_fits g j h three))

    out_at : (o : ℕ) → o < outputs_of ws
        → word_at (file_of form ws) (head_size + length (joined (gates_of ws) (gate_bytes form ws)) + out_size * o + 2) ≡ get_or ws (gate_place (gates_of ws) + o) 0
    unfolding out_bytes
    out_at o h =
        let q = head_size + length (joined (gates_of ws) (gate_bytes form ws)) + out_size * o in
        let fit : get_or ws (gate_place (gates_of ws) + o + 0) 0 < 4294967296 = rw add-zero (out_fits o h) in
        simp add-zero at
        (words_in_lem (file_of form ws) ws (q + 2) (gate_place (gates_of ws) + o) 1 0
        (λ i m. rw (add_assoc q 2 i) (out_in o (2 + i) h (omega arith) ∙ get_or-append-add (byte_n ∷ byte_o ∷ []) (words_bytes ws (gate_place (gates_of ws) + o) 1) i 0))
        (omega arith) fit)

    -- an operand, written or not
    operand_is : (g j : ℕ) → g < gates_of ws → operand_at form (file_of form ws) (start_of form (file_of form ws) g) j
        ≡ choose (ltb j (width_of form (get_or ws (gate_place g) 0))) (get_or ws (gate_place g + 1 + j) 0) 0
    unfolding operand_at
    operand_is g j h = rw (kind_in g h) (choose-same _ _ _ (λ t. operand_in g j h (ltb-true _ _ t)))

    gate_back : (g : ℕ) → g < gates_of ws → four_in form (file_of form ws) g ≡ part ws (0 + gate_place g) gate_stride
    unfolding four_in part
    gate_back g h =
        let p = gate_place g in
        let a1 : p + 1 + 1 ≡ p + 2 = omega arith in
        let a2 : p + 1 + 2 ≡ p + 3 = omega arith in
        let w = left_out form (get_or ws p 0) (get_or ws (p + 1) 0) (get_or ws (p + 2) 0) (get_or ws (p + 3) 0) (sound.whole g h) in
        rw (zero-add p, add-zero p, kind_in g h, operand_is g 0 h, operand_is g 1 h, operand_is g 2 h, a1, a2, add-zero (p + 1), w.0, w.1, w.2)

    out_back : (o : ℕ) → o < outputs_of ws → out_word (file_of form ws) (start_of form (file_of form ws) (gates_in (file_of form ws))) o ≡ part ws (0 + (gate_place (gates_of ws) + 1 * o)) 1
    unfolding out_word part
    out_back o h =
        let e : 0 + (gate_place (gates_of ws) + 1 * o) + 0 ≡ gate_place (gates_of ws) + o = omega arith in
        rw (gates_back, starts (gates_of ws) (omega arith), e, out_at o h)

    pub words_back : words_in form (file_of form ws) ≡ ws
    unfolding words_in
    words_back =
        let s = file_of form ws in
        let G = gates_of ws in
        let O = outputs_of ws in
        let outs = out_word s (start_of form s (gates_in s)) in
        let h : header (counts_in s) ≡ part ws 0 header_words = ap header counts_back ∙ head_part ws in
        let g : part ws 0 (gate_place 0) ++ joined G (four_in form s) ≡ part ws 0 (gate_place G) =
        joined-part ws 0 G (four_in form s) gate_place (λ i. gate_stride) (λ i l. omega arith) gate_back in
        let o : part ws 0 (gate_place G + 1 * 0) ++ joined O outs ≡ part ws 0 (gate_place G + 1 * O) =
        joined-part ws 0 O outs (λ i. gate_place G + 1 * i) (λ i. 1) (λ i l. omega arith) out_back in
        let z : gate_place G + 1 * 0 ≡ gate_place G = omega arith in
        ap₂ ◌++◌ (ap₂ ◌++◌ h (ap (λ n. joined n (four_in form s)) (gates_back))) (ap (λ n. joined n outs) (outputs_back))
        ∙ rw (g, ← z, o) (part-all ws (gate_place G + 1 * O) (omega (arith, sound.size)))

    gate_done : (g : ℕ) → g < gates_of ws → gate_record form (file_of form ws) g ≡ Ok tt
    unfolding gate_record size_at
    gate_done g h =
        rw (kind_in g h, starts g (omega arith))
        (record_done (file_of form ws) _ byte_g _
        (omega (arith, file_length form ws, joined_most (gates_of ws) g (gate_bytes form ws) h, gate_length form ws g))
        (gate_mark g h).0 (gate_mark g h).1)

    out_done : (o : ℕ) → o < outputs_of ws → out_record (file_of form ws) (head_size + length (joined (gates_of ws) (gate_bytes form ws))) o ≡ Ok tt
    unfolding out_record
    out_done o h = record_done (file_of form ws) _ byte_o _ (omega (arith, file_length form ws)) (out_mark o h).0 (out_mark o h).1

    records_done : records_answer form (file_of form ws) ≡ Ok tt
    unfolding records_answer outs_answer
    records_done =
        let h : length (file_of form ws) ≤ head_size + length (joined (gates_of ws) (gate_bytes form ws)) + out_size * outputs_of ws = omega (arith, file_length form ws) in
        rw (gates_back, outputs_back, starts (gates_of ws) (omega arith))
        (both (each_done _ _ gate_done) (both (each_done _ _ out_done) (refuse_not _ _ _ (le-ltb _ _ h))))

    head_done : record_answer (file_of form ws) 0 (mark_of form) head_size ≡ Ok tt
    unfolding head_bytes
    head_done = record_done (file_of form ws) 0 _ head_size (omega (arith, file_length form ws)) (head_in 0 (omega arith)) (head_in 1 (omega arith))

    pub check_written : check_answer form (file_of form ws) ≡ Ok tt
    unfolding check_answer head_answer body_answer
    check_written =
        both (both head_done (ap (counts_answer 1) counts_back ∙ limits_done 1 _ sound.limits))
        (both records_done (ap₂ (wires_answer 1) words_back counts_back ∙ wires_done 1 ws sound))

    -- the room that reading asks for is the netlist's length
    pub room_written : word_count (counts_in (file_of form ws)) ≡ length ws
    room_written = ap word_count counts_back ∙ sym sound.size
