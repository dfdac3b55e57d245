-- The printed text by its cases, as the code comes to them.
use Prim.Native.Nat.{ℕ, ◌+◌, ◌≤◌, ◌<◌}
use mathlib.Core.Bool.{Bool, true, false}
use mathlib.Core.Path.{◌≡◌, refl, sym, ap, ◌∙◌}
use mathlib.Core.List.{List, ◌++◌}
use native.Mathlib.Omega.{arith}
use lib.ListN.{length, take, drop, length-append}
use lib.Seq.{length-take-le}
use Rattle.std.specs.Prelude.{Result, Ok, Err}
use Rattle.answer.specs.declared.Reason.TheVariants.{Shape}
use Rattle.answer.specs.declared.Refusal.{Refusal}
use Rattle.answer.specs.Answers.{Answer, giving}
use Rattle.answer.specs.Choose.{choose}
use Rattle.answer.specs.Judges.{room_answer}
use Rattle.answer.specs.Fronts.{over, left}
use Rattle.answer.proofs.Rows.{first_done, refuse_done, refuse_not, both, withheld, given}
use Rattle.answer.proofs.Judges.{room_done, done_room}
use Rattle.answer.proofs.Over.{kept, made, take-over}
use Rattle.netlist.specs.Net.{depth, mults}
use Rattle.netlist.specs.declared.counts.Counts.{Counts}
use Rattle.netlist.specs.Words.{gate_place, counts_of, inputs_of, gates_of, word_count, net_counts, words}
use Rattle.netlist.specs.Emitted.{Emitted}
use Rattle.netlist.proofs.Puts.{words-length}
use Rattle.cells.specs.Cells.{threshold_net}
use Rattle.emit.specs.Emit.{no_threshold, threshold_answer}
use Rattle.line.proofs.Lines.{long_nothing}
use Rattle.text.specs.Text.{title_line, net_text, refusal, threshold_text, text_of, printed, Kept, Printed}
use Rattle.text.specs.Inner.{Room, words_text}
use Rattle.text.proofs.Fits.{threshold_few, printed-fits}
use Rattle.text.proofs.Netlists.{words_text_lem}
use Rattle.text.proofs.Thresholds.{words_most}

-- an input longer than any line: what follows its first bytes cannot matter
pub long_refused : (s : List ℕ) → 8 < length s → printed s ≡ refusal
unfolding printed text_of
long_refused s h = rw (long_nothing s h)

-- a netlist, or none
pub netlist_text : (d n : ℕ) → no_threshold d n ≡ false → threshold_text d n ≡ title_line d n ++ net_text (threshold_net d n)
unfolding threshold_text
netlist_text d n ok = rw ok

pub title_room : (d n : ℕ) (text : List ℕ) → no_threshold d n ≡ false → Room text (threshold_text d n) → Room text (title_line d n)
title_room d n text ok h = omega (arith, ap length (netlist_text d n ok), length-append (title_line d n) (net_text (threshold_net d n)))

-- the words that were emitted
module _ (d n : ℕ) (ws : List ℕ) (e : ws ≡ words (threshold_net d n)) where
  pub emitted_text : (D M : ℕ) → D ≡ depth (threshold_net d n) → M ≡ mults (threshold_net d n) → words_text ws D M ≡ net_text (threshold_net d n)
  emitted_text D M f g = ap (λ (w : List ℕ). words_text w D M) e ∙ words_text_lem (threshold_net d n) D M f g

  pub emitted_few : no_threshold d n ≡ false → inputs_of ws + gates_of ws ≤ 65536
  emitted_few ok = rw e (threshold_few d n ok)

  pub emitted_room : (D M : ℕ) (text : List ℕ) → D ≡ depth (threshold_net d n) → M ≡ mults (threshold_net d n) → no_threshold d n ≡ false
      → Room text (threshold_text d n) → Room (text ++ title_line d n) (words_text ws D M)
  emitted_room D M text f g ok h =
      omega (arith, ap length (netlist_text d n ok), ap length (emitted_text D M f g), length-append (title_line d n) (net_text (threshold_net d n)), length-append text (title_line d n))

  pub emitted_long : gate_place (gates_of ws) ≤ length ws
  emitted_long = rw e (omega (arith, words-length (threshold_net d n)))

-- with room for the words, emission refuses exactly where there is no netlist
answer_done : (d n room : ℕ) → 17160 ≤ room → no_threshold d n ≡ false → threshold_answer d n room ≡ Ok tt
unfolding threshold_answer
answer_done d n room h ok = both (refuse_not Shape 0 0 ok) (done_room 1 room _ (omega (arith, words_most d n ok)))

pub refused_text : (d n room : ℕ) (r : Answer) (e : Refusal) → r ≡ threshold_answer d n room → r ≡ Err e → 17160 ≤ room → threshold_text d n ≡ refusal
unfolding threshold_text
refused_text d n room r x e f h = go (no_threshold d n) refl
  where
    go : (b : Bool) → no_threshold d n ≡ b → choose b refusal (title_line d n ++ net_text (threshold_net d n)) ≡ refusal
    go true k = refl
    go false k = let q = answer_done d n room h k in cc

module _ (d n : ℕ) (old new : List ℕ) (r : Answer) (e : Emitted (threshold_answer d n (length old)) (threshold_net d n) old r new) (f : r ≡ Ok tt) where
  pub done_netlist : no_threshold d n ≡ false
  unfolding threshold_answer
  done_netlist = refuse_done Shape 0 0 _ (first_done _ _ (sym e.answered ∙ f))

  done_over : new ≡ over (words (threshold_net d n)) old
  done_over = e.written ∙ sym (made _ _ f)

  -- the header is the netlist's
  done_counts : counts_of new ≡ net_counts (threshold_net d n)
  unfolding over
  done_counts = ap counts_of done_over

  -- as many words as it says
  module _ (c : Counts) (size : ℕ) (h : c ≡ counts_of new) (k : size ≡ word_count c) where
    done_size : size ≡ length (words (threshold_net d n))
    done_size = k ∙ ap word_count (h ∙ done_counts) ∙ sym (words-length (threshold_net d n))

    pub done_words : take size new ≡ words (threshold_net d n)
    done_words =
        ap (λ (k : ℕ). take k new) done_size
        ∙ ap (take (length (words (threshold_net d n)))) done_over
        ∙ take-over (words (threshold_net d n)) old

    pub done_within : size ≤ length new
    unfolding over
    done_within =
        omega (arith, done_size, ap length done_over, length-append (words (threshold_net d n)) (drop (length (words (threshold_net d n))) old))

-- kept in the result, or not
module _ (text old : List ℕ) (r : Answer) (h : r ≡ room_answer 2 (length old) (length text)) where
  pub keep_none : (e : Refusal) (s : Result ℕ Refusal) → r ≡ Err e → s ≡ Err e → Kept text old s old
  keep_none e s k f = let q = sym h ∙ k in record { answered = withheld _ f q; written = kept _ _ q }

  module _ (k : r ≡ Ok tt) where
    pub keep_room : length text ≤ length old
    keep_room = room_done 2 (length old) (length text) (sym h ∙ k)

    pub keep_place : length (take (length text) old) ≡ length text
    keep_place = length-take-le (length text) old keep_room

    pub keep_all : (new : List ℕ) → new ≡ text → Kept text old (Ok (length text)) (new ++ drop (length text) old)
    unfolding over
    keep_all new e = let q = sym h ∙ k in rw e (record { answered = given _ q; written = made _ _ q })

-- with 131,072 bytes lent the text is always there
pub print_whole : (input old : List ℕ) (r : Result ℕ Refusal) (new : List ℕ) → 131072 ≤ length old → Printed input old r new
    → (r ≡ Ok (length (printed input))) × (new ≡ over (printed input) old)
print_whole input old r new h p =
    let e = done_room 2 (length old) _ (omega (arith, printed-fits input)) in
    (p.answered ∙ sym (given _ e), p.written ∙ sym (made _ _ e))

-- the length that is told is within the result
kept_within : (a : Answer) (text old new : List ℕ) (n : ℕ) → Ok n ≡ giving a (length text) → new ≡ left a text old → n ≤ length new
unfolding giving left over
kept_within (Ok _) text old new n e h =
    let z : n ≡ length text = cc in omega (arith, ap length h, length-append text (drop (length text) old))
kept_within (Err r) text old new n e h = cc

pub print_within : (input old new : List ℕ) (n : ℕ) → Printed input old (Ok n) new → n ≤ length new
print_within input old new n p = kept_within (room_answer 2 (length old) (length (printed input))) (printed input) old new n p.answered p.written
