use mathlib.Core.Path.{◌≡◌, refl, sym, ap₂, ◌∙◌}
use mathlib.Core.List.{List}
use Prim.Native.Nat.{ℕ}
use native.Mathlib.Omega.{arith}
use Rattle.std.specs.Prelude.{Err}
use Rattle.answer.specs.Fronts.{over}
use Rattle.frames.specs.Frames.{frame_of}
use Rattle.answer.proofs.Over.{kept, made}
use Rattle.frames.proofs.Judged.{append_after_lent}
use Rattle.frames.proofs.append_after.Goals as goal

pub returns-in_err-append_after : goal.returns-in_err-append_after
returns-in_err-append_after c =
    let e : c.from_residual.result ≡ Err c.in_err-append_after.field-0.0 = grind arith in
    record { answered = e ∙ sym c.in_err-append_after.was ∙ c.append_after.ensures; written = kept _ _ e }

pub lent-requires : goal.lent-requires
lent-requires c = (append_after_lent _ _ _ _ _ (sym c.append_after.ensures ∙ c.in_ok-append_after.was)).keyed

pub of_bits-requires : goal.of_bits-requires
of_bits-requires c = (append_after_lent _ _ _ _ _ (sym c.append_after.ensures ∙ c.in_ok-append_after.was)).iv_bits

pub put_frame-requires : goal.put_frame-requires
put_frame-requires c =
    let l = append_after_lent _ _ _ _ _ (sym c.append_after.ensures ∙ c.in_ok-append_after.was) in
    record { record_bits = l.record_bits; room = l.room }

pub returns : goal.returns
returns c =
    let e = ap₂ (λ (k v : List ℕ). over (frame_of k c.args.«record».now v) c.args.frame.now) c.lent.ensures c.of_bits.ensures in
    record { answered = sym c.in_ok-append_after.was ∙ c.append_after.ensures; written = c.put_frame.ensures ∙ e ∙ made _ _ refl }
