use mathlib.Core.Path.{◌≡◌, refl, sym, ap, ◌∙◌}
use mathlib.Core.List.{List}
use Prim.Native.Nat.{ℕ}
use native.Mathlib.Omega.{arith}
use Rattle.std.specs.Prelude.{Err}
use Rattle.answer.specs.Fronts.{over}
use Rattle.sequence.specs.Files.{frames_in}
use Rattle.frames.specs.Frames.{records_in}
use Rattle.answer.proofs.Over.{kept, made}
use Rattle.frames.proofs.Judged.{read_lent}
use Rattle.frames.proofs.read.Goals as goal

pub returns-in_err-read : goal.returns-in_err-read
returns-in_err-read c =
    let e : c.from_residual.result ≡ Err c.in_err-read.field-0.0 = grind arith in
    record { answered = e ∙ sym c.in_err-read.was ∙ c.read.ensures; written = kept _ _ e }

pub lent-requires : goal.lent-requires
lent-requires c = (read_lent _ _ _ (sym c.read.ensures ∙ c.in_ok-read.was)).keyed

pub put_records-requires : goal.put_records-requires
put_records-requires c =
    let l = read_lent _ _ _ (sym c.read.ensures ∙ c.in_ok-read.was) in
    record { whole = l.whole; room = l.room }

pub returns : goal.returns
returns c =
    let file = c.args.file.now in
    let e = ap (λ (k : List ℕ). over (records_in k file (frames_in file)) c.args.records.now) c.lent.ensures in
    record { answered = sym c.in_ok-read.was ∙ c.read.ensures; written = c.put_records.ensures ∙ e ∙ made _ _ refl }
