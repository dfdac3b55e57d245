use Prim.Native.Nat.{ℕ, ◌≤◌}
use mathlib.Core.Path.{◌≡◌, refl, sym, ◌∙◌}
use native.Mathlib.Omega.{arith}
use lib.ListN.{length, get_or, take}
use lib.Seq.{length-take-le}
use Rattle.std.specs.Prelude.{Ok, Err}
use Rattle.answer.proofs.Over.{kept, made}
use Rattle.kreyvium.specs.Words.{tops}
use Rattle.instance.specs.Wired.{Wired, Bits}
use Rattle.instance.specs.Keys.{Keyed, key_in}
use Rattle.judging.specs.Judging.{encipher_answer}
use Rattle.judging.proofs.Accepted.{encipher_wired}
use Rattle.cipher.specs.Cipher.{keystream_of}
use Rattle.cipher.proofs.Accepted.{iv-lent, stream_of_lem}
use Rattle.cipher.proofs.Block.{stream-words}
use Rattle.cipher.proofs.Written.{front_room, encipher_written}
use borrow.Author.Rules.{rules}
use Rattle.cipher.proofs.with_kreyvium.Goals.{After-stream64, In_ok-kreyvium}
use Rattle.cipher.proofs.with_kreyvium.Goals as goal

-- it is accepted
accepted : (c : In_ok-kreyvium)
    → let a = c.args in encipher_answer 6 a.m a.key.now a.«record».now a.indices.now a.iv.now (length a.res.now) ≡ Ok tt
accepted c = sym c.kreyvium.ensures ∙ c.in_ok-kreyvium.was

wired : (c : In_ok-kreyvium)
    → let a = c.args in Wired 6 a.m a.indices.now a.iv.now × Keyed 6 a.key.now × Bits a.m a.«record».now × (a.m ≤ length a.res.now)
wired c =
    let a = c.args in
    encipher_wired 6 a.m a.key.now a.«record».now a.indices.now a.iv.now _ (accepted c)

-- so the IV can be packed
read : (c : In_ok-kreyvium)
    → let a = c.args in (a.m ≤ 64) × (length a.iv.now ≡ 128) × ((i : ℕ) → get_or a.iv.now i 0 ≤ 1)
read c =
    let a = c.args in
    iv-lent 6 a.m a.indices.now a.iv.now (wired c).0 refl

-- the part of the result that is lent on is as long as the record
part : (c : In_ok-kreyvium) → let a = c.args in length (take a.m a.res.now) ≡ a.m
part c = let a = c.args in length-take-le a.m a.res.now (wired c).3

-- the block's first bits are the keystream
streamed : (c : After-stream64)
    → let a = c.args in
    Wired 6 a.m a.indices.now a.iv.now × Keyed 6 a.key.now × Bits a.m a.«record».now × (a.m ≤ length a.res.now)
    → tops (length (take a.m a.res.now)) c.stream64.result ≡ keystream_of 6 (length (take a.m a.res.now)) (key_in 6 a.key.now) a.indices.now a.iv.now
streamed c w =
    let a = c.args in
    let r = iv-lent 6 a.m a.indices.now a.iv.now w.0 refl in
    c.stream64.ensures _ (rw (length-take-le a.m a.res.now w.3) r.0)
    ∙ stream-words a.key.now a.iv.now w.1 r.1 r.2 _ _ _ _ _ c.key_word-k0.ensures c.key_word-k1.ensures c.word-v0.ensures c.word-v1.ensures
    ∙ stream_of_lem 6 _ (key_in 6 a.key.now) a.indices.now a.iv.now refl

pub returns-in_err-kreyvium : goal.returns-in_err-kreyvium
returns-in_err-kreyvium c =
    let e : c.from_residual.result ≡ Err c.in_err-kreyvium.field-0.0 = grind arith in
    record {
      answered = grind arith;
      written = kept _ c.args.res.now e;
    }

pub key_word-k0-requires : goal.key_word-k0-requires
key_word-k0-requires c = ((wired c).1, search rules)

pub key_word-k1-requires : goal.key_word-k1-requires
key_word-k1-requires c = ((wired (goal.at.key_word-k1-requires c).In_ok-kreyvium).1, search rules)

pub invariant_of-iv : goal.invariant_of-iv
invariant_of-iv c = record { small = (read (goal.at.invariant_of-iv c).In_ok-kreyvium).2 }

pub word-v0-requires : goal.word-v0-requires
word-v0-requires c = omega (arith, (read (goal.at.word-v0-requires c).In_ok-kreyvium).1)

pub word-v1-requires : goal.word-v1-requires
word-v1-requires c = omega (arith, (read (goal.at.word-v1-requires c).In_ok-kreyvium).1)

pub slice_bounds-put_front-end : goal.slice_bounds-put_front-end
slice_bounds-put_front-end c = (wired (goal.at.slice_bounds-put_front-end c).In_ok-kreyvium).3

pub slice_bounds-put_front-end-2 : goal.slice_bounds-put_front-end-2
slice_bounds-put_front-end-2 c = sym (part (goal.at.slice_bounds-put_front-end-2 c).In_ok-kreyvium)

pub put_front-requires : goal.put_front-requires
put_front-requires c = rw (part (goal.at.put_front-requires c).In_ok-kreyvium) (read (goal.at.put_front-requires c).In_ok-kreyvium).0

pub add-requires : goal.add-requires
add-requires c =
    let a = c.args in
    let w = wired (goal.at.add-requires c).In_ok-kreyvium in
    front_room 6 a.m (key_in 6 a.key.now) a.indices.now a.iv.now a.res.now _ w.3 (c.put_front.ensures ∙ streamed (goal.at.add-requires c).After-stream64 w) a.«record».now w.2.size

pub returns : goal.returns
returns c =
    let a = c.args in
    let w = wired (goal.at.returns c).In_ok-kreyvium in
    record {
      answered = sym (accepted (goal.at.returns c).In_ok-kreyvium);
      written =
          c.add.ensures
          ∙ encipher_written 6 a.m (key_in 6 a.key.now) a.indices.now a.iv.now a.res.now _ w.3 (c.put_front.ensures ∙ streamed (goal.at.returns c).After-stream64 w) a.«record».now w.2.size
          ∙ made _ _ refl;
    }
