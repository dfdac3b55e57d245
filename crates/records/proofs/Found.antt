-- What whole records tell, and the words in a file by place.
use Prim.Native.Nat.{ℕ, zero, suc, ◌+◌, ◌*◌, ◌<◌, ◌≤◌}
use mathlib.Core.Path.{◌≡◌, refl, ◌∙◌, ap}
use mathlib.Core.Bool.{Bool, true, false}
use mathlib.Core.List.{List, ◌++◌, append_assoc}
use native.Mathlib.Omega.{arith}
use lib.ListN.{length, get_or, length-append}
use lib.Seq.{get_or-append-add}
use borrow.Author.Tests.{leb-true, eqb-true, not-false, ltb-false}
use Rattle.std.specs.Prelude.{Ok}
use Rattle.answer.specs.Choose.{choose}
use Rattle.answer.proofs.Rows.{first_done, then_done, refuse_done, each_at}
use Rattle.netlist.specs.Words.{gate_stride, gate_place, header, word_count}
use Rattle.netlist.proofs.Accepted.{counts_done}
use Rattle.records.specs.declared.form.Form.{Form}
use Rattle.records.specs.Bytes.{word_at, joined}
use Rattle.records.specs.File.{out_size, counts_in, gates_in, outputs_in, record_begins, start_of, four_in, out_word, words_in, record_answer, gate_record, out_record, outs_answer, records_answer, head_answer}
use Rattle.records.specs.Inner.{Begun, Headed, Framed}
use Rattle.records.proofs.Joined.{joined_at, joined_in, joined_length}

-- ---- what whole records tell

choose_false : (b x : Bool) → choose b x false ≡ true → (b ≡ true) × (x ≡ true)
choose_false true x e = (refl, e)
choose_false false x e = absurd (let z : ◌≡◌ {A = ℕ} 0 1 = cc in omega arith)

pub begun : (s : List ℕ) (p letter size : ℕ) → record_answer s p letter size ≡ Ok tt → Begun s p letter size
unfolding record_answer record_begins
begun s p letter size d =
    let e : record_begins s p letter size ≡ true = not-false _ (refuse_done _ _ _ _ d) in
    let a = choose_false _ _ e in
    let b = choose_false _ _ a.1 in
    record { fits = leb-true _ _ a.0; first = eqb-true _ _ b.0; second = eqb-true _ _ b.1 }

pub headed : (form : Form) (s : List ℕ) → head_answer form s ≡ Ok tt → Headed form s
unfolding head_answer
headed form s h = record { head = begun _ _ _ _ (first_done _ _ h); limits = counts_done 1 _ (then_done _ _ h) }

pub framed : (form : Form) (s : List ℕ) → Headed form s → records_answer form s ≡ Ok tt → Framed form s
unfolding records_answer gate_record out_record outs_answer
framed form s h r =
    let r1 = then_done _ _ r in
    record {
      head = h.head;
      limits = h.limits;
      gate = λ g l. begun _ _ _ _ (each_at _ _ (first_done _ _ r) g l);
      out = λ o l. begun _ _ _ _ (each_at _ _ (first_done _ _ r1) o l);
      rest = ltb-false _ _ (refuse_done _ _ _ _ (then_done _ _ r1));
    }

module _ (form : Form) (s : List ℕ) (f : Framed form s) where
  -- the records follow one another
  ends : (g : ℕ) → g ≤ gates_in s → start_of form s g ≤ length s
  unfolding start_of
  ends zero h = f.head.fits
  ends (suc g) h = (f.gate g (omega arith)).fits

  pub out_ends : (o : ℕ) → o ≤ outputs_in s → start_of form s (gates_in s) + out_size * o ≤ length s
  out_ends zero h = omega (arith, ends (gates_in s) (omega arith))
  out_ends (suc o) h = omega (arith, (f.out o (omega arith)).fits)

-- ---- the words by place

module _ (form : Form) (s : List ℕ) where
  pub fours_length : (n : ℕ) → length (joined n (four_in form s)) ≡ gate_stride * n
  unfolding four_in
  fours_length n = joined_length n gate_stride (four_in form s) (λ i. refl)

  outs_length : (p n : ℕ) → length (joined n (out_word s p)) ≡ 1 * n
  unfolding out_word
  outs_length p n = joined_length n 1 (out_word s p) (λ i. refl)

  pub words-length : length (words_in form s) ≡ word_count (counts_in s)
  unfolding words_in
  words-length =
      let a = header (counts_in s) in
      length-append (a ++ joined (gates_in s) (four_in form s)) (joined (outputs_in s) (out_word s (start_of form s (gates_in s))))
      ∙ omega (arith, length-append a (joined (gates_in s) (four_in form s)), fours_length (gates_in s), outs_length (start_of form s (gates_in s)) (outputs_in s))

  four : (g : ℕ) → length (four_in form s g) ≡ gate_stride
  unfolding four_in
  four g = refl

  -- word j of gate g
  pub gate_word : (g j : ℕ) → g < gates_in s → j < gate_stride → get_or (words_in form s) (gate_place g + j) 0 ≡ get_or (four_in form s g) j 0
  unfolding words_in
  gate_word g j h k =
      let a = header (counts_in s) in
      let G = joined (gates_in s) (four_in form s) in
      let O = joined (outputs_in s) (out_word s (start_of form s (gates_in s))) in
      let n = length (joined g (four_in form s)) in
      let e : gate_place g + j ≡ length a + (n + j) = omega (arith, fours_length g) in
      ap (λ i. get_or (a ++ G ++ O) i 0) e
      ∙ ap (λ l. get_or l (length a + (n + j)) 0) (append_assoc a G O)
      ∙ get_or-append-add a (G ++ O) (n + j) 0
      ∙ joined_at (gates_in s) g (four_in form s) O j h (rw (four g) k)

  pub output_word : (o : ℕ) → o < outputs_in s → get_or (words_in form s) (gate_place (gates_in s) + o) 0 ≡ word_at s (start_of form s (gates_in s) + out_size * o + 2)
  unfolding words_in out_word
  output_word o h =
      let a = header (counts_in s) in
      let G = joined (gates_in s) (four_in form s) in
      let p = start_of form s (gates_in s) in
      let O = joined (outputs_in s) (out_word s p) in
      let m = joined o (out_word s p) in
      let e : gate_place (gates_in s) + o ≡ length (a ++ G) + (length m + 0) = omega (arith, length-append a G, fours_length (gates_in s), outs_length p o) in
      ap (λ i. get_or (a ++ G ++ O) i 0) e
      ∙ get_or-append-add (a ++ G) O (length m + 0) 0
      ∙ joined_in (outputs_in s) o (out_word s p) 0 h (omega arith)
