-- Inner: only contracts of private functions cite this. A run of levels as the code's `LevelRow` has it: the gates of one
-- level, and where the next begins. All of it is crates/cells/specs/InnerLoop.antt with the numbers of a row in one value.
use Rattle.std.specs.Prelude.{List, ◌++◌, ℕ, ◌+◌, ◌-◌, ◌*◌, ◌≤◌, ◌<◌}
use Rattle.netlist.specs.declared.gate.Gate.{Gate}
use Rattle.cells.specs.InnerLoop.{pos, down, tail, low_gates, sum_gates, levels, first_wire}
use Rattle.emit.specs.declared.levels.LevelRow.{LevelRow}

-- the gates of a level over input wire x
unfoldable pub level_gates : LevelRow → ℕ → List Gate
level_gates r x =
    low_gates r.lows x r.first r.next
    ++ (tail x r.first r.second r.more ++ sum_gates r.highs (r.next + 2 * pos r.lows + r.more) r.sum)

-- how many gates that is
abbrev pub level_size : LevelRow → ℕ
level_size r = 2 * pos r.lows + r.more + 2 - pos r.highs

abbrev pub after_level : LevelRow → LevelRow
after_level r = record {
  at = r.at + 4 * level_size r;
  lows = down r.lows;
  highs = down r.highs;
  first = r.next + pos r.lows;
  second = r.next + pos r.lows + 1;
  more = pos r.lows + r.more + pos (down r.highs) - 1;
  next = r.next + 2 * pos r.lows + r.more + 2 - pos r.highs;
  sum = r.next + 2 * pos r.lows + r.more + 1 - pos r.highs;
}

-- the levels over these input wires
unfoldable pub levels_of : List ℕ → LevelRow → List Gate
levels_of xs r = levels xs r.lows r.highs r.first r.second r.more r.next r.sum

-- what a level asks of the slice's length and of the numbers
pub record LevelFits (r : LevelRow) (len : ℕ) : Type 0 where
  pub room : r.at + 4 * level_size r ≤ len
  pub cells_fit : r.second + r.more < 4000000
  pub next_fits : r.next + r.more < 4000000

-- what the step alone asks
pub record StepFits (r : LevelRow) : Type 0 where
  pub at_fits : r.at + 4 * r.more + 16 < 18446744073709551616
  pub next_fits : r.next + r.more < 4000000

abbrev pub first_level : ℕ → ℕ → ℕ → ℕ → ℕ → LevelRow
first_level at next l h x = record {
  at = at + 4 * pos l;
  lows = down l;
  highs = down h;
  first = first_wire l x next;
  second = x;
  more = pos l + pos (down h) - 1;
  next = next + pos l;
  sum = x;
}
