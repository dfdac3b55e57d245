use native.Mathlib.Omega.{arith}
use mathlib.Core.Path.{sym}
use lib.Seq.{length-take-le}
use Rattle.text.proofs.Cases.{refused_text, done_netlist, done_words, done_within}
use Rattle.text.proofs.text.Text.threshold.Goals as goal

pub refused-requires : goal.refused-requires
refused-requires c = rw (refused_text _ _ _ _ _ c.emit_threshold.ensures.answered c.in_default.is (omega arith)) at c.requires

pub returns-in_default : goal.returns-in_default
returns-in_default c = rw (refused_text _ _ _ _ _ c.emit_threshold.ensures.answered c.in_default.is (omega arith)) c.refused.ensures

pub slice_bounds-words-end : goal.slice_bounds-words-end
slice_bounds-words-end c =
    done_within _ _ _ _ _ c.emit_threshold.ensures c.in-Ok.is _ _ c.counts_of-counts.ensures c.word_count-size.ensures

pub slice_bounds-emitted-end : goal.slice_bounds-emitted-end
slice_bounds-emitted-end c =
    sym (length-take-le _ _ (done_within _ _ _ _ _ c.emit_threshold.ensures c.in-Ok.is _ _ c.counts_of-counts.ensures c.word_count-size.ensures))

pub invariant_of-emitted : goal.invariant_of-emitted
invariant_of-emitted c = record { there = done_netlist _ _ _ _ _ c.emit_threshold.ensures c.in-Ok.is }

pub emitted-requires-clause-net_value : goal.emitted-requires-clause-net_value
emitted-requires-clause-net_value c =
    done_words _ _ _ _ _ c.emit_threshold.ensures c.in-Ok.is _ _ c.counts_of-counts.ensures c.word_count-size.ensures
