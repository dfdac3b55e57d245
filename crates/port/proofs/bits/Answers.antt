use Rattle.std.specs.Prelude.{Err}
use mathlib.Core.Path.{◌≡◌, refl, sym, ◌∙◌}
use native.Mathlib.Omega.{arith}
use Rattle.answer.proofs.Over.{made, kept}
use Rattle.answer.proofs.Judges.{room_done}
use Rattle.port.proofs.bits.Goals as goal

pub returns-in_err-room : goal.returns-in_err-room
returns-in_err-room c =
    let e : c.from_residual.result ≡ Err c.in_err-room.field-0.0 = grind arith in
    record { answered = e ∙ sym c.in_err-room.was ∙ c.room.ensures; written = kept _ _ e }

pub put_fields-requires : goal.put_fields-requires
put_fields-requires c = room_done 1 _ 64 (sym c.room.ensures ∙ c.in_ok-room.was)

pub returns : goal.returns
returns c =
    record {
      answered = sym c.in_ok-room.was ∙ c.room.ensures;
      written = c.put_fields.ensures ∙ made _ _ refl;
    }
