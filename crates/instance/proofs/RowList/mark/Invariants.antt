use mathlib.Core.Path.{◌≡◌}
use lib.ListN.{length, drop}
use Rattle.instance.proofs.Marks.{Rowed}
use Rattle.instance.proofs.RowList.mark.Given as goal

abbrev pub invariant-loop-row : goal.invariant-loop-row
invariant-loop-row l = record {
  rowed : Rowed l.self.s.now l.self.n l.at;
  rest : drop l.at l.self.s.now ≡ l.row-iterator.rest.now;
  step : l.row-iterator.size ≡ l.self.n;
  seen : length l.seen ≡ length l.initial.seen;
}
