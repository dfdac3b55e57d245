-- What Done tells of two netlists that are glued, and what gives Done.
use Prim.Native.Nat.{ℕ}
use mathlib.Core.Path.{◌≡◌, ap}
use mathlib.Core.Bool.{not}
use mathlib.Core.List.{List}
use borrow.Author.Tests.{ltb-false, eqb-true, not-false, le-ltb, eq-eqb}
use Rattle.std.specs.Prelude.{Ok}
use Rattle.answer.specs.declared.Reason.TheVariants as reason
use Rattle.answer.proofs.Rows.{first_done, then_done, both, refuse_done, refuse_not, one_of, two_of, three_of}
use Rattle.answer.proofs.Judges.{room_done, done_room}
use Rattle.netlist.proofs.Accepted.{done_sound, sound_done}
use Rattle.glue.specs.Glue.{glue_answer, Fit}

pub done_fit : (a b : List ℕ) (n : ℕ) → glue_answer a b n ≡ Ok tt → Fit a b n
unfolding glue_answer
done_fit a b n e =
    let r = then_done _ _ (then_done _ _ e) in
    record {
      first = done_sound 1 a (first_done _ _ e);
      second = done_sound 2 b (first_done _ _ (then_done _ _ e));
      space = room_done 3 n _ (one_of _ _ _ r);
      fits = eqb-true _ _ (not-false _ (refuse_done reason.Fit 0 0 _ (two_of _ _ _ r)));
      few = ltb-false _ _ (refuse_done reason.Gates 0 0 _ (three_of _ _ _ r));
    }

pub fit_done : (a b : List ℕ) (n : ℕ) → Fit a b n → glue_answer a b n ≡ Ok tt
unfolding glue_answer
fit_done a b n f =
    both (sound_done 1 a f.first)
    (both (sound_done 2 b f.second)
    (both (done_room 3 n _ f.space)
    (both (refuse_not _ _ _ (ap not (eq-eqb _ _ f.fits))) (refuse_not _ _ _ (le-ltb _ _ f.few)))))
