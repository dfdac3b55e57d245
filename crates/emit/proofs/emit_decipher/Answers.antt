use mathlib.Core.Path.{◌≡◌, sym, ap, ◌∙◌}
use native.Mathlib.Omega.{arith}
use lib.ListN.{length}
use Rattle.std.specs.Prelude.{Ok, Err}
use Rattle.answer.proofs.Over.{kept}
use Rattle.netlist.specs.Words.{words}
use Rattle.answer.specs.Judges.{room_answer}
use Rattle.answer.proofs.Judges.{room_done}
use Rattle.emit.specs.Emit.{wiring_answer, decipher_net}
use Rattle.emit.proofs.Accepted.{wiring_wired, refused_early, judged, size_refused, size_answer, size_counts}
use Rattle.emit.proofs.emit_decipher.Goals.{After-room, In_ok-size}
use Rattle.emit.proofs.emit_decipher.Goals as goal

-- the wiring is accepted
accepted : (c : In_ok-size)
    → let a = c.args in wiring_answer a.instance a.m a.indices.now a.whitening.now ≡ Ok tt
accepted c = size_answer _ _ c.decipher_size.ensures c.in_ok-size.was

-- and what is answered on the room
due : (c : After-room)
    → let a = c.args in
    c.room.result ≡ room_answer 3 (length a.res.now) (length (words (decipher_net a.instance a.m a.indices.now a.whitening.now)))
due c =
    let a = c.args in
    c.room.ensures ∙ ap (room_answer 3 (length a.res.now)) (size_counts _ _ c.decipher_size.ensures c.in_ok-size.was).1

pub returns-in_err-size : goal.returns-in_err-size
returns-in_err-size c =
    let e : c.from_residual.result ≡ Err c.in_err-size.field-0.0 = grind arith in
    record {
      answered = refused_early _ _ _ _ _ e (size_refused _ _ c.decipher_size.ensures c.in_err-size.was);
      written = kept _ c.args.res.now e;
    }

pub returns-in_err-room : goal.returns-in_err-room
returns-in_err-room c =
    let g = goal.at.returns-in_err-room c in
    let e : c.from_residual-in_err-room.result ≡ Err c.in_err-room.field-0.0 = grind arith in
    record {
      answered = e ∙ sym c.in_err-room.was ∙ judged _ _ _ _ _ (accepted g.In_ok-size) (due g.After-room);
      written = kept _ c.args.res.now e;
    }

pub invariant_of-lent : goal.invariant_of-lent
invariant_of-lent c = record { wired = wiring_wired _ _ _ _ (accepted (goal.at.invariant_of-lent c).In_ok-size) }

pub put-requires : goal.put-requires
put-requires c = room_done 3 _ _ (sym (due (goal.at.put-requires c).After-room) ∙ c.in_ok-room.was)

pub returns : goal.returns
returns c =
    let g = goal.at.returns c in
    let w = c.put.ensures in
    record {
      answered = w.answered ∙ sym c.in_ok-room.was ∙ judged _ _ _ _ _ (accepted g.In_ok-size) (due g.After-room);
      written = w.written;
    }
