use mathlib.Core.Path.{◌≡◌, refl, sym, ap, ◌∙◌}
use lib.ListN.{length}
use native.Mathlib.Omega.{arith}
use Rattle.std.specs.Prelude.{Ok, Err}
use Rattle.answer.proofs.Rows.{stop_by, pass}
use Rattle.answer.proofs.Over.{kept, made}
use Rattle.netlist.specs.Words.{word_count, words}
use Rattle.answer.specs.Judges.{room_answer}
use Rattle.answer.proofs.Judges.{room_done}
use Rattle.rounds.specs.Gates.{kreyvium_net}
use Rattle.register.specs.Judging.{iv_answer, emit_kreyvium_answer}
use Rattle.register.proofs.Words.{kreyvium_length}
use Rattle.register.proofs.Accepted.{iv_done}
use Rattle.register.proofs.emit_kreyvium.Goals.{After-room, In_ok-judge_iv}
use Rattle.register.proofs.emit_kreyvium.Goals as goal

accepted : (c : In_ok-judge_iv) → let a = c.args in iv_answer a.m a.iv.now ≡ Ok tt
accepted c = sym c.judge_iv.ensures ∙ c.in_ok-judge_iv.was

-- what is answered on the room
due : (c : After-room)
    → let a = c.args in
    c.room.result ≡ room_answer 2 (length a.res.now) (length (words (kreyvium_net a.iv.now a.m)))
due c =
    let a = c.args in
    c.room.ensures
    ∙ ap (room_answer 2 (length a.res.now))
    (c.word_count.ensures ∙ ap word_count c.counts-counts.ensures ∙ sym (kreyvium_length a.iv.now a.m))

pub returns-in_err-judge_iv : goal.returns-in_err-judge_iv
unfolding emit_kreyvium_answer
returns-in_err-judge_iv c =
    let e : c.from_residual.result ≡ Err c.in_err-judge_iv.field-0.0 = grind arith in
    record {
      answered = stop_by _ e c.judge_iv.ensures c.in_err-judge_iv.was;
      written = kept _ c.args.res.now e;
    }

pub invariant_of-net : goal.invariant_of-net
invariant_of-net c = let d = iv_done _ _ (accepted (goal.at.invariant_of-net c).In_ok-judge_iv) in record { iv_whole = d.2.size; m_small = d.1 }

pub returns-in_err-room : goal.returns-in_err-room
unfolding emit_kreyvium_answer
returns-in_err-room c =
    let g = goal.at.returns-in_err-room c in
    let e : c.from_residual-in_err-room.result ≡ Err c.in_err-room.field-0.0 = grind arith in
    record {
      answered = e ∙ sym c.in_err-room.was ∙ pass (accepted g.In_ok-judge_iv) (due g.After-room);
      written = kept _ c.args.res.now e;
    }

pub put-requires : goal.put-requires
put-requires c =
    room_done 2 _ _ (sym (due (goal.at.put-requires c).After-room) ∙ c.in_ok-room.was)

pub returns : goal.returns
unfolding emit_kreyvium_answer
returns c =
    record {
      answered = sym c.in_ok-room.was ∙ pass (accepted (goal.at.returns c).In_ok-judge_iv) (due (goal.at.returns c).After-room);
      written = c.put.ensures ∙ made _ _ refl;
    }
