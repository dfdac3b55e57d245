use mathlib.Core.Path.{◌≡◌, sym, ◌∙◌}
use native.Mathlib.Omega.{arith}
use Rattle.std.specs.Prelude.{Err}
use Rattle.path.proofs.Writing.{unchanged}
use Rattle.path.proofs.score.Goals as goal

pub returns-in_err-score : goal.returns-in_err-score
returns-in_err-score c =
    let a = c.args in
    let e : c.from_residual.result ≡ Err c.in_err-score.field-0.0 = grind arith in
    unchanged record { inst = a.instance; m = a.m; key = a.key.now; rec = a.«record».now; idx = a.indices.now; wh = a.whitening.now; score = a.scoring.now; enc = a.enciphered.now; net = a.deciphering.now; glued = a.glued.now; inp = a.inputs.now; vals = a.wires.now; out = a.scores.now } (e ∙ sym c.in_err-score.was ∙ c.score.ensures) e

pub results-requires : goal.results-requires
results-requires c = sym c.score.ensures ∙ c.in_ok-score.was
