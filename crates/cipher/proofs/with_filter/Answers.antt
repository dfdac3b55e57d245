use Prim.Native.Nat.{◌≤◌}
use mathlib.Core.Path.{◌≡◌, refl, sym, ◌∙◌}
use native.Mathlib.Omega.{arith}
use lib.ListN.{length}
use lib.Seq.{length-take-le}
use Rattle.std.specs.Prelude.{Ok, Err}
use Rattle.answer.proofs.Over.{kept, made}
use Rattle.instance.specs.Wired.{Wired, Bits}
use Rattle.instance.specs.Keys.{Keyed, key_in}
use Rattle.judging.specs.Judging.{encipher_answer}
use Rattle.judging.proofs.Accepted.{encipher_wired}
use Rattle.cipher.proofs.Written.{front_room, encipher_written}
use Rattle.cipher.proofs.with_filter.Goals.{In_ok-encipher}
use Rattle.cipher.proofs.with_filter.Goals as goal

-- it is accepted
accepted : (c : In_ok-encipher)
    → let a = c.args in encipher_answer a.instance a.m a.key.now a.«record».now a.indices.now a.whitening.now (length a.res.now) ≡ Ok tt
accepted c = sym c.encipher.ensures ∙ c.in_ok-encipher.was

wired : (c : In_ok-encipher)
    → let a = c.args in Wired a.instance a.m a.indices.now a.whitening.now × Keyed a.instance a.key.now × Bits a.m a.«record».now × (a.m ≤ length a.res.now)
wired c =
    let a = c.args in
    encipher_wired a.instance a.m a.key.now a.«record».now a.indices.now a.whitening.now _ (accepted c)

pub returns-in_err-encipher : goal.returns-in_err-encipher
returns-in_err-encipher c =
    let e : c.from_residual.result ≡ Err c.in_err-encipher.field-0.0 = grind arith in
    record {
      answered = grind arith;
      written = kept _ c.args.res.now e;
    }

pub slice_bounds-put_stream-end : goal.slice_bounds-put_stream-end
slice_bounds-put_stream-end c = (wired c).3

pub slice_bounds-put_stream-end-2 : goal.slice_bounds-put_stream-end-2
slice_bounds-put_stream-end-2 c =
    let a = c.args in
    sym (length-take-le a.m a.res.now (wired (goal.at.slice_bounds-put_stream-end-2 c).In_ok-encipher).3)

pub put_stream-requires : goal.put_stream-requires
put_stream-requires c =
    let a = c.args in
    let w = wired (goal.at.put_stream-requires c).In_ok-encipher in
    (rw (length-take-le a.m a.res.now w.3) w.0, w.1)

pub add-requires : goal.add-requires
add-requires c =
    let a = c.args in
    front_room a.instance a.m (key_in a.instance a.key.now) a.indices.now a.whitening.now a.res.now _ (wired (goal.at.add-requires c).In_ok-encipher).3 c.put_stream.ensures a.«record».now (wired (goal.at.add-requires c).In_ok-encipher).2.size

pub returns : goal.returns
returns c =
    let a = c.args in
    record {
      answered = sym (accepted (goal.at.returns c).In_ok-encipher);
      written =
          c.add.ensures
          ∙ encipher_written a.instance a.m (key_in a.instance a.key.now) a.indices.now a.whitening.now a.res.now _ (wired (goal.at.returns c).In_ok-encipher).3 c.put_stream.ensures a.«record».now (wired (goal.at.returns c).In_ok-encipher).2.size
          ∙ made _ _ refl;
    }
