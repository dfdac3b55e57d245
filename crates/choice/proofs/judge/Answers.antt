use mathlib.Core.Path.{◌≡◌, refl, sym, ap, ◌∙◌}
use native.Mathlib.Omega.{arith}
use lib.ListN.{length}
use Rattle.std.specs.Prelude.{Ok, Err}
use Rattle.answer.specs.declared.Reason.TheVariants.{Draw}
use Rattle.answer.specs.Answers.{Answer, ◌▹◌}
use Rattle.answer.proofs.Rows.{stop, go, refuse_yes}
use Rattle.answer.specs.Judges.{length_answer, room_answer, first_answer}
use Rattle.instance.specs.declared.Sizes.{Sizes}
use Rattle.instance.proofs.Judged.{outside_yes}
use Rattle.choice.specs.Choice.{past_draw, choose_answer}
use Rattle.choice.proofs.Accepted.{by_sizes, few, lent}
use Rattle.choice.proofs.judge.Goals.{After-sizes_of-sizes, In_ok-judge_draws}
use Rattle.choice.proofs.judge.Goals as goal

numbered : (c : After-sizes_of-sizes) {r : Answer}
    → r ≡ length_answer 1 (length c.args.draws.now) c.sizes_of-sizes.result.row ▹ room_answer 2 c.args.room c.sizes_of-sizes.result.row ▹ (first_answer Draw 1 (past_draw c.sizes_of-sizes.result.key c.args.draws.now) c.args.draws.now) → r ≡ (choose_answer c.args.instance c.args.draws.now c.args.room)
numbered c h = by_sizes _ _ _ _ c.sizes_of-sizes.ensures c.if-instance-lt1.false c.if-instance-gt5.false h

accepted : (c : In_ok-judge_draws) → choose_answer c.args.instance c.args.draws.now c.args.room ≡ Ok tt
accepted c =
    sym (by_sizes _ _ _ _ c.sizes_of-sizes.ensures c.if-instance-lt1.false c.if-instance-gt5.false (go c.exact.ensures c.in_ok-exact.was (go c.room.ensures c.in_ok-room.was c.judge_draws.ensures)))
    ∙ c.in_ok-judge_draws.was

pub returns-then-instance-lt1 : goal.returns-then-instance-lt1
unfolding choose_answer
returns-then-instance-lt1 c = sym (stop _ (refuse_yes _ _ _ (outside_yes 1 5 _ c.then-instance-lt1.either)) refl)

pub returns-in_err-exact : goal.returns-in_err-exact
returns-in_err-exact c =
    let p : c.from_residual.result ≡ Err c.in_err-exact.field-0.0 = grind arith in
    rw p (sym (numbered (goal.at.returns-in_err-exact c).After-sizes_of-sizes (stop _ c.exact.ensures c.in_err-exact.was)) ∙ c.in_err-exact.was)

pub returns-in_err-room : goal.returns-in_err-room
returns-in_err-room c =
    let p : c.from_residual-in_err-room.result ≡ Err c.in_err-room.field-0.0 = grind arith in
    rw p
    (sym (numbered (goal.at.returns-in_err-room c).After-sizes_of-sizes (go c.exact.ensures c.in_ok-exact.was (stop _ c.room.ensures c.in_err-room.was)))
    ∙ c.in_err-room.was)

pub judge_draws-requires : goal.judge_draws-requires
judge_draws-requires c =
    few _ c.args.draws.now c.args.room _ c.sizes_of-sizes.ensures (sym c.exact.ensures ∙ c.in_ok-exact.was)

pub returns-in_err-judge_draws : goal.returns-in_err-judge_draws
returns-in_err-judge_draws c =
    let p : c.from_residual-in_err-judge_draws.result ≡ Err c.in_err-judge_draws.field-0.0 = grind arith in
    rw p
    (sym (numbered (goal.at.returns-in_err-judge_draws c).After-sizes_of-sizes (go c.exact.ensures c.in_ok-exact.was (go c.room.ensures c.in_ok-room.was c.judge_draws.ensures)))
    ∙ c.in_err-judge_draws.was)

pub invariant_of-result : goal.invariant_of-result
invariant_of-result c =
    let l = lent _ _ _ (accepted (goal.at.invariant_of-result c).In_ok-judge_draws) c.sizes_of-sizes.ensures in
    record { fit = l.0; small = l.1 }

pub returns : goal.returns
returns c =
    (accepted (goal.at.returns c).In_ok-judge_draws, refl, ap (λ (s : Sizes). s.key) c.sizes_of-sizes.ensures)
