-- What gives done of a choice, and what done tells of the draws.
use Prim.Native.Nat.{ℕ, zero, suc, ◌-◌, ◌≤◌}
use mathlib.Core.Path.{◌≡◌, ap, ◌∙◌}
use mathlib.Core.List.{List}
use native.Mathlib.Omega.{arith}
use lib.ListN.{length, get_or}
use borrow.Author.Tests.{leb-false, lt-leb}
use Rattle.std.specs.Prelude.{Ok}
use Rattle.answer.specs.declared.Reason.TheVariants.{Draw, Instance}
use Rattle.answer.specs.Answers.{Answer, ◌▹◌}
use Rattle.answer.proofs.Rows.{both, first_done, then_done, one_of, two_of, three_of, refuse_done, refuse_not, pass}
use Rattle.instance.specs.declared.Sizes.{Sizes}
use Rattle.instance.specs.Table.{sizes_of, key_bits, row_bits}
use Rattle.answer.specs.Judges.{length_answer, room_answer, first_answer}
use Rattle.instance.proofs.Judged.{key_small, outside_not}
use Rattle.answer.proofs.Judges.{length_done, room_done, first_done_at, done_length, done_room, done_first}
use Rattle.instance.proofs.Accepted.{not_outside}
use Rattle.choice.specs.Choice.{past_draw, choose_answer}
use Rattle.choice.specs.Draws.{Drawn}
use Rattle.choice.specs.Inner.{DrawsFit}

-- Of the table: a row has no more places than the key, and the key at most 16,384.
pub row_fits : (k : ℕ) → row_bits k ≤ key_bits k
unfolding sizes_of
row_fits zero = omega arith
row_fits (suc zero) = omega arith
row_fits (suc (suc zero)) = omega arith
row_fits (suc (suc (suc zero))) = omega arith
row_fits (suc (suc (suc (suc zero)))) = omega arith
row_fits (suc (suc (suc (suc (suc zero))))) = omega arith
row_fits (suc (suc (suc (suc (suc (suc zero)))))) = omega arith
row_fits (suc (suc (suc (suc (suc (suc (suc k))))))) = omega arith

-- For code that has read an instance's sizes off the table.
module _ (inst : ℕ) (draws : List ℕ) (room : ℕ) (s : Sizes) (m : s ≡ sizes_of inst) where
  pub by_sizes : {r : Answer} → 1 ≤ inst → inst ≤ 5
      → r ≡ length_answer 1 (length draws) s.row ▹ room_answer 2 room s.row ▹ first_answer Draw 1 (past_draw s.key draws) draws
      → r ≡ choose_answer inst draws room
  unfolding choose_answer
  by_sizes lo hi h =
      pass (refuse_not Instance 0 0 (not_outside 1 5 inst lo hi))
      (h
      ∙ ap (λ (t : Sizes). length_answer 1 (length draws) t.row ▹ room_answer 2 room t.row ▹ first_answer Draw 1 (past_draw t.key draws) draws) m)

  pub few : length_answer 1 (length draws) s.row ≡ Ok tt → length draws ≤ s.key
  few d =
      omega (arith, length_done 1 (length draws) s.row d, ap (λ (t : Sizes). t.row) m, ap (λ (t : Sizes). t.key) m, row_fits inst)

-- What the rules let a caller lend is accepted, with room for the row.
pub choose_accepted : (inst : ℕ) (draws : List ℕ) (room : ℕ) → Drawn inst draws → row_bits inst ≤ room → choose_answer inst draws room ≡ Ok tt
unfolding choose_answer past_draw
choose_accepted inst draws room d h =
    both (refuse_not Instance 0 0 (not_outside 1 5 inst d.least d.most))
    (both (done_length 1 _ _ d.count)
    (both (done_room 2 room _ h)
    (done_first Draw 1 (past_draw (key_bits inst) draws) draws (λ i l. lt-leb (key_bits inst - i) (get_or draws i 0) (d.low i l)))))

-- And nothing else is.
module _ (inst : ℕ) (draws : List ℕ) (room : ℕ) (e : choose_answer inst draws room ≡ Ok tt) where
  pub drawn : Drawn inst draws
  unfolding choose_answer past_draw
  drawn =
      let k = outside_not 1 5 inst (refuse_done Instance 0 0 _ (first_done _ _ e)) in
      let e1 = then_done _ _ e in
      let low = first_done_at Draw 1 (past_draw (key_bits inst) draws) draws (three_of _ _ _ e1) in
      record {
        least = k.0;
        most = k.1;
        count = length_done 1 _ _ (one_of _ _ _ e1);
        low = λ i h. leb-false (key_bits inst - i) (get_or draws i 0) (low i h);
      }

  pub roomy : row_bits inst ≤ room
  unfolding choose_answer
  roomy = room_done 2 _ _ (two_of _ _ _ (then_done _ _ e))

  pub counted : length draws ≡ row_bits inst
  counted = drawn.count

  pub fit : DrawsFit (key_bits inst) draws
  fit = record { count = omega (arith, counted, row_fits inst); low = λ i h. omega (arith, drawn.low i h) }

  pub lent : {s : Sizes} → s ≡ sizes_of inst → DrawsFit s.key draws × (s.key ≤ 16384) × (length draws ≤ room)
  lent m = (rw m fit, rw m (key_small inst), omega (arith, counted, roomy))
