use Prim.Native.Nat.{◌≤◌}
use mathlib.Core.Path.{◌≡◌, refl, sym, ◌∙◌}
use native.Mathlib.Omega.{arith}
use lib.ListN.{length}
use lib.Seq.{length-take-le}
use Rattle.std.specs.Prelude.{Ok, Err}
use Rattle.answer.proofs.Over.{kept, made}
use Rattle.instance.specs.Wired.{Wired}
use Rattle.instance.specs.Keys.{Keyed, key_in}
use Rattle.judging.specs.Judging.{keystream_answer}
use Rattle.judging.proofs.Accepted.{keystream_wired}
use Rattle.cipher.proofs.Written.{keystream_written}
use Rattle.cipher.proofs.keystream.Goals.{In_ok-keystream}
use Rattle.cipher.proofs.keystream.Goals as goal

-- it is accepted
accepted : (c : In_ok-keystream)
    → let a = c.args in keystream_answer a.instance a.m a.key.now a.indices.now a.whitening.now (length a.res.now) ≡ Ok tt
accepted c = sym c.keystream.ensures ∙ c.in_ok-keystream.was

wired : (c : In_ok-keystream)
    → let a = c.args in Wired a.instance a.m a.indices.now a.whitening.now × Keyed a.instance a.key.now × (a.m ≤ length a.res.now)
wired c =
    let a = c.args in
    keystream_wired a.instance a.m a.key.now a.indices.now a.whitening.now _ (accepted c)

pub returns-in_err-keystream : goal.returns-in_err-keystream
returns-in_err-keystream c =
    let e : c.from_residual.result ≡ Err c.in_err-keystream.field-0.0 = grind arith in
    record {
      answered = grind arith;
      written = kept _ c.args.res.now e;
    }

pub slice_bounds-put_stream-end : goal.slice_bounds-put_stream-end
slice_bounds-put_stream-end c = (wired c).2

pub slice_bounds-put_stream-end-2 : goal.slice_bounds-put_stream-end-2
slice_bounds-put_stream-end-2 c =
    let a = c.args in
    sym (length-take-le a.m a.res.now (wired (goal.at.slice_bounds-put_stream-end-2 c).In_ok-keystream).2)

pub put_stream-requires : goal.put_stream-requires
put_stream-requires c =
    let a = c.args in
    let w = wired (goal.at.put_stream-requires c).In_ok-keystream in
    (rw (length-take-le a.m a.res.now w.2) w.0, w.1)

pub returns : goal.returns
returns c =
    let a = c.args in
    record {
      answered = sym (accepted (goal.at.returns c).In_ok-keystream);
      written = keystream_written a.instance a.m (key_in a.instance a.key.now) a.indices.now a.whitening.now a.res.now _ (wired (goal.at.returns c).In_ok-keystream).2 c.put_stream.ensures ∙ made _ _ refl;
    }
