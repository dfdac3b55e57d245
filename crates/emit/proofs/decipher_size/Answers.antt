use mathlib.Core.Path.{◌≡◌, sym, ◌∙◌}
use native.Mathlib.Omega.{arith}
use Rattle.std.specs.Prelude.{Ok}
use Rattle.emit.specs.Emit.{wiring_answer}
use Rattle.emit.proofs.Accepted.{wiring_wired, no_size, size_is}
use Rattle.emit.proofs.decipher_size.Goals.{In_ok-wiring}
use Rattle.emit.proofs.decipher_size.Goals as goal

-- the wiring is accepted
accepted : (c : In_ok-wiring)
    → let a = c.args in wiring_answer a.instance a.m a.indices.now a.whitening.now ≡ Ok tt
accepted c = sym c.wiring.ensures ∙ c.in_ok-wiring.was

pub returns-in_err-wiring : goal.returns-in_err-wiring
returns-in_err-wiring c = no_size _ (grind arith) c.wiring.ensures c.in_err-wiring.was

pub invariant_of-lent : goal.invariant_of-lent
invariant_of-lent c = record { wired = wiring_wired _ _ _ _ (accepted (goal.at.invariant_of-lent c).In_ok-wiring) }

pub returns : goal.returns
returns c =
    size_is _ _ _ (accepted (goal.at.returns c).In_ok-wiring) c.counts-counts.ensures c.word_count.ensures
