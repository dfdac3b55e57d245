-- Writing what was read: the bytes come back.
use Prim.Native.Nat.{ℕ, zero, suc, ◌+◌, ◌*◌, ◌<◌}
use mathlib.Core.Path.{◌≡◌, refl, sym, ◌∙◌, ap}
use mathlib.Core.Bool.{Bool, true, false}
use mathlib.Core.List.{List, [], ◌∷◌, ◌++◌}
use native.Mathlib.Omega.{arith}
use native.Mathlib.Nat.{add-zero, zero-add}
use lib.ListN.{length, get_or}
use borrow.Author.Tests.{lt-ltb}
use Rattle.answer.specs.Choose.{choose}
use Rattle.netlist.specs.Words.{header_words, gate_place, gates_of, outputs_of}
use Rattle.records.specs.declared.form.Form.{Form}
use Rattle.records.specs.Bytes.{word_at, joined}
use Rattle.records.specs.File.{byte_n, byte_g, byte_o, mark_of, width_of, head_size, out_size, gates_in, outputs_in, size_at, start_of, operand_at, four_in, words_in}
use Rattle.records.specs.Inner.{Framed}
use Rattle.records.proofs.Found.{out_ends, gate_word, output_word}
use Rattle.file.specs.Bytes.{little, Bytes}
use Rattle.file.specs.File.{words_bytes, head_bytes, gate_bytes, out_bytes, file_of}
use Rattle.file.proofs.Joined.{part, part-append, part-all, joined-part, little_word}
use Rattle.file.proofs.Written.{width_most}

-- ---- the words by place

module _ (form : Form) (s : List ℕ) where
  count_word : (j : ℕ) → j < header_words → get_or (words_in form s) (0 + j) 0 ≡ word_at s (2 + 4 * j)
  unfolding words_in
  count_word zero h = refl
  count_word (suc zero) h = refl
  count_word (suc (suc zero)) h = refl
  count_word (suc (suc (suc j))) h = absurd (omega arith)

  kind_word : (g : ℕ) → g < gates_in s → get_or (words_in form s) (gate_place g) 0 ≡ get_or s (start_of form s g + 2) 0
  unfolding four_in
  kind_word g h = rw add-zero at (gate_word form s g 0 h (omega arith))

  operand_place : (g j : ℕ) → j < 3 → get_or (four_in form s g) (1 + j) 0 ≡ operand_at form s (start_of form s g) j
  unfolding four_in
  operand_place g zero h = refl
  operand_place g (suc zero) h = refl
  operand_place g (suc (suc zero)) h = refl
  operand_place g (suc (suc (suc j))) h = absurd (omega arith)

-- ---- the bytes again

choose_true : (b : Bool) (x y : ℕ) → b ≡ true → choose b x y ≡ x
choose_true true x y e = refl
choose_true false x y e = absurd (let z : ◌≡◌ {A = ℕ} 0 1 = cc in omega arith)

-- words of a netlist that are words of a file, written again
words_again : (s net : List ℕ) (q p n : ℕ) → Bytes s → ((j : ℕ) → j < n → get_or net (p + j) 0 ≡ word_at s (q + 4 * j)) → words_bytes net p n ≡ part s q (4 * n)
unfolding words_bytes part
words_again s net q p n b h =
    joined-part s q n (λ j. little (get_or net (p + j) 0)) (λ j. 4 * j) (λ j. 4) (λ i l. omega arith)
    (λ j l. rw (h j l) (little_word s (q + 4 * j) b))

part_two : (s : List ℕ) (p n x : ℕ) → get_or s p 0 ≡ byte_n → get_or s (p + 1) 0 ≡ x → byte_n ∷ x ∷ part s (p + 2) n ≡ part s p (2 + n)
unfolding part
part_two s p n x a b =
    let e : part s p 2 ≡ byte_n ∷ x ∷ [] = rw (add-zero p, a, b) in
    ap (λ l. l ++ part s (p + 2) n) (sym e) ∙ part-append s p 2 n

part_three : (s : List ℕ) (p n x k : ℕ) → get_or s p 0 ≡ byte_n → get_or s (p + 1) 0 ≡ x → get_or s (p + 2) 0 ≡ k → byte_n ∷ x ∷ k ∷ part s (p + 3) n ≡ part s p (3 + n)
unfolding part
part_three s p n x k a b c =
    let e : part s p 3 ≡ byte_n ∷ x ∷ k ∷ [] = rw (add-zero p, a, b, c) in
    ap (λ l. l ++ part s (p + 3) n) (sym e) ∙ part-append s p 3 n

module _ (form : Form) (s : List ℕ) (b : Bytes s) (f : Framed form s) where
  gates_word : gates_of (words_in form s) ≡ gates_in s
  gates_word = count_word form s 1 (omega arith)

  outputs_word : outputs_of (words_in form s) ≡ outputs_in s
  outputs_word = count_word form s 2 (omega arith)

  head_again : head_bytes form (words_in form s) ≡ part s 0 head_size
  unfolding head_bytes
  head_again =
      rw (words_again s (words_in form s) 2 0 header_words b (count_word form s))
      (part_two s 0 (4 * header_words) (mark_of form) f.head.first f.head.second)

  -- a written operand
  operand_again : (g j : ℕ) → g < gates_in s → j < width_of form (get_or s (start_of form s g + 2) 0)
      → get_or (words_in form s) (gate_place g + 1 + j) 0 ≡ word_at s (start_of form s g + 3 + 4 * j)
  unfolding operand_at
  operand_again g j h l =
      let m : j < 3 = omega (arith, width_most form (get_or s (start_of form s g + 2) 0)) in
      let e : gate_place g + 1 + j ≡ gate_place g + (1 + j) = omega arith in
      rw e (gate_word form s g (1 + j) h (omega arith) ∙ operand_place form s g j m ∙ choose_true _ _ _ (lt-ltb _ _ l))

  gate_again : (g : ℕ) → g < gates_in s → gate_bytes form (words_in form s) g ≡ part s (0 + start_of form s g) (size_at form s (start_of form s g))
  unfolding gate_bytes size_at
  gate_again g h =
      let p = start_of form s g in
      let w = f.gate g h in
      rw (kind_word form s g h, zero-add p, words_again s (words_in form s) (p + 3) (gate_place g + 1) (width_of form (get_or s (p + 2) 0)) b (λ j l. operand_again g j h l))
      (part_three s p _ byte_g _ w.first w.second refl)

  one_out : (o j : ℕ) → o < outputs_in s → j < 1 → get_or (words_in form s) (gate_place (gates_in s) + o + j) 0 ≡ word_at s (start_of form s (gates_in s) + out_size * o + 2 + 4 * j)
  one_out o zero h l = simp add-zero (output_word form s o h)
  one_out o (suc j) h l = absurd (omega arith)

  out_again : (o : ℕ) → o < outputs_in s → out_bytes (words_in form s) o ≡ part s (0 + (start_of form s (gates_in s) + out_size * o)) out_size
  unfolding out_bytes
  out_again o h =
      let p = start_of form s (gates_in s) + out_size * o in
      let w = f.out o h in
      rw (gates_word, zero-add p, words_again s (words_in form s) (p + 2) (gate_place (gates_in s) + o) 1 b (λ j l. one_out o j h l))
      (part_two s p 4 byte_o w.first w.second)

  pub file_again : file_of form (words_in form s) ≡ s
  unfolding file_of start_of
  file_again =
      let ws = words_in form s in
      let G = gates_in s in
      let O = outputs_in s in
      let p = start_of form s G in
      let g : part s 0 head_size ++ joined G (gate_bytes form ws) ≡ part s 0 p =
      joined-part s 0 G (gate_bytes form ws) (start_of form s) (λ i. size_at form s (start_of form s i)) (λ i l. refl) gate_again in
      let o : part s 0 (p + out_size * 0) ++ joined O (out_bytes ws) ≡ part s 0 (p + out_size * O) =
      joined-part s 0 O (out_bytes ws) (λ i. p + out_size * i) (λ i. out_size) (λ i l. omega arith) out_again in
      let z : p + out_size * 0 ≡ p = omega arith in
      let e : p + out_size * O ≡ length s = omega (arith, out_ends form s f O (omega arith), f.rest) in
      rw (gates_word, outputs_word, head_again, g, ← z, o) (part-all s _ e)
