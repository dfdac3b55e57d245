use mathlib.Core.Path.{◌≡◌}
use mathlib.Core.List.{◌++◌}
use lib.ListN.{drop}
use Rattle.text.specs.Text.{out_lines}
use Rattle.text.proofs.text.Text.outputs.Given as goal

-- what is still to be printed completes the text
abbrev pub invariant-loop-wire : goal.invariant-loop-wire
invariant-loop-wire l = l.self ++ out_lines (drop l.wire-index l.wires) ≡ l.initial.self ++ out_lines l.wires
