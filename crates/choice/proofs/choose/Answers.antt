use mathlib.Core.Path.{◌≡◌, refl, sym, ap, ◌∙◌}
use lib.ListN.{length}
use native.Mathlib.Omega.{arith}
use Rattle.std.specs.Prelude.{Err}
use Rattle.answer.proofs.Over.{kept, made}
use Rattle.choice.proofs.Accepted.{counted, roomy}
use Rattle.choice.proofs.choose.Goals as goal

pub returns-in_err-judged : goal.returns-in_err-judged
returns-in_err-judged c =
    let p : c.from_residual.result ≡ Err c.in_err-judged.field-0.0 = grind arith in
    record {
      answered = p ∙ sym c.in_err-judged.ensures;
      written = kept _ c.args.row.now p;
    }

pub put-requires : goal.put-requires
put-requires c =
    let e = c.in_ok-judged.ensures in
    omega (arith, ap length e.1, counted _ _ _ e.0, roomy _ _ _ e.0)

pub returns : goal.returns
returns c =
    let e = c.in_ok-judged.ensures in
    let row = c.args.row.now in
    record {
      answered = sym e.0;
      written = c.put.ensures ∙ rw (e.1, e.2, counted _ _ _ e.0) (made _ _ refl);
    }
