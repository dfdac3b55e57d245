-- Inner: only contracts of private functions cite this. The cells as a loop writes them: level by level, with counts that
-- go down. proofs/Same.antt: these are the gates of specs/Cells.antt.
use Rattle.std.specs.Prelude.{List, [], ◌∷◌, ◌++◌, ℕ, zero, suc, ◌+◌, ◌-◌, ◌*◌}
use Rattle.netlist.specs.declared.gate.Gate.{Gate}
use Rattle.netlist.specs.declared.gate.Gate.TheVariants.{Not, Xor, And, Mux}

-- 1 from one on
abbrev pub pos : ℕ → ℕ
pos zero = 0
pos (suc n) = 1

-- one less, and 0 of 0
abbrev pub down : ℕ → ℕ
down zero = zero
down (suc n) = n

-- level with input x over a row of cells at wires a, s, s + 1, .. (m after the first): the cells that choose between neighbours, then AND of the last cell and x
abbrev pub tail : ℕ → ℕ → ℕ → ℕ → List Gate
tail x a s zero = And a x ∷ []
tail x a s (suc m) = Mux x s a ∷ tail x s (s + 1) m

-- cell 0 and its NOT, where it is kept
abbrev pub low_gates : ℕ → ℕ → ℕ → ℕ → List Gate
low_gates zero x a next = []
low_gates (suc l) x a next = Not x ∷ And a next ∷ []

-- above level d: the sum goes on
abbrev pub sum_gates : ℕ → ℕ → ℕ → List Gate
sum_gates zero t sum = Xor t sum ∷ []
sum_gates (suc h) t sum = []

-- a level for each input wire. l more levels keep cell 0, h - 1 more keep their last AND as a cell; it is the sum where h is 1, and joins the sum where h is 0.
-- The row before: wires a, s, s + 1, .. (m after the first). next is the first free wire.
abbrev pub levels : List ℕ → ℕ → ℕ → ℕ → ℕ → ℕ → ℕ → ℕ → List Gate
levels [] l h a s m next sum = []
levels (x ∷ xs) l h a s m next sum =
    low_gates l x a next ++ (tail x a s m ++ (sum_gates h (next + 2 * pos l + m) sum
    ++ levels xs (down l) (down h) (next + pos l) (next + pos l + 1) (pos l + m + pos (down h) - 1)
    (next + 2 * pos l + m + 2 - pos h) (next + 2 * pos l + m + 1 - pos h)))

abbrev pub first_gates : ℕ → ℕ → List Gate
first_gates zero x = []
first_gates (suc l) x = Not x ∷ []

abbrev pub first_wire : ℕ → ℕ → ℕ → ℕ
first_wire zero x next = x
first_wire (suc l) x next = next

-- over any input wires, from wire next on
abbrev pub cells : List ℕ → ℕ → ℕ → ℕ → List Gate
cells [] l h next = []
cells (x ∷ xs) l h next = first_gates l x ++ levels xs (down l) (down h) (first_wire l x next) x (pos l + pos (down h) - 1) (next + pos l) x
