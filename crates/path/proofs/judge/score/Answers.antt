use mathlib.Core.Path.{◌≡◌, sym, ◌∙◌}
use native.Mathlib.Omega.{arith}
use lib.ListN.{length}
use Rattle.std.specs.Prelude.{Ok}
use Rattle.emit.proofs.Accepted.{wiring_wired, size_refused, size_answer, size_counts}
use Rattle.emit.proofs.Emission.{emitted_sound}
use Rattle.path.specs.Inner.{sizes_answer}
use Rattle.path.proofs.Judging.{wiring, wiring_is, wiring_accepted, refused_sizes, refused_bits, refused_wiring, judged}
use Rattle.path.proofs.judge.score.Goals.{In_ok-sizes, In_ok-size}
use Rattle.path.proofs.judge.score.Goals as goal

-- sizes are accepted
sized : (c : In_ok-sizes)
    → let a = c.args.call in
    sizes_answer a.instance a.m (length a.key.now) (length a.«record».now) (length a.indices.now) (length a.whitening.now) ≡ Ok tt
sized c = sym c.sizes.ensures ∙ c.in_ok-sizes.was

-- and the wiring
wired : (c : In_ok-size)
    → let a = c.args.call in
    sizes_answer a.instance a.m (length a.key.now) (length a.«record».now) (length a.indices.now) (length a.whitening.now) ≡ Ok tt
    → wiring a.instance a.m a.key.now a.«record».now a.indices.now a.whitening.now ≡ Ok tt
wired c s = sym (wiring_is _ _ _ _ _ _ s) ∙ size_answer _ _ c.decipher_size.ensures c.in_ok-size.was

pub returns-in_err-sizes : goal.returns-in_err-sizes
returns-in_err-sizes c = refused_sizes _ _ _ _ _ _ _ _ (grind arith) c.sizes.ensures c.in_err-sizes.was

pub returns-in_err-bits : goal.returns-in_err-bits
returns-in_err-bits c =
    refused_bits _ _ _ _ _ _ _ _ (grind arith) (sized (goal.at.returns-in_err-bits c).In_ok-sizes) c.bits.ensures c.in_err-bits.was

pub returns-in_err-size : goal.returns-in_err-size
returns-in_err-size c =
    let s = sized (goal.at.returns-in_err-size c).In_ok-sizes in
    refused_wiring _ _ _ _ _ _ _ _ (grind arith) s (sym c.bits.ensures ∙ c.in_ok-bits.was)
    (sym (size_refused _ _ c.decipher_size.ensures c.in_err-size.was) ∙ wiring_is _ _ _ _ _ _ s)

pub results-requires : goal.results-requires
results-requires c =
    let s = sized (goal.at.results-requires c).In_ok-sizes in
    let e = wiring_accepted _ _ _ _ _ _ s (wired (goal.at.results-requires c).In_ok-size s) in
    omega (arith, (size_counts _ _ c.decipher_size.ensures c.in_ok-size.was).0, (emitted_sound _ _ _ _ (wiring_wired _ _ _ _ e)).limits.gates)

pub returns : goal.returns
returns c =
    let s = sized (goal.at.returns c).In_ok-sizes in
    let n = size_counts _ _ c.decipher_size.ensures c.in_ok-size.was in
    judged _ _ _ _ _ _ _ _ s (sym c.bits.ensures ∙ c.in_ok-bits.was) (wired (goal.at.returns c).In_ok-size s) (c.results.ensures _ n.0 n.1)
