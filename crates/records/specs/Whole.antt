-- Counts and gate records, taken out of a file: what is there, or 0 where not all of its bytes are.
use Rattle.std.specs.Prelude.{ℕ, ◌+◌, Bool, List, length, get_or, leb}
use Rattle.answer.specs.Choose.{choose}
use Rattle.netlist.specs.declared.counts.Counts.{Counts}
use Rattle.records.specs.declared.Quad.{Quad}
use Rattle.records.specs.declared.form.Form.{Form}
use Rattle.records.specs.File.{head_size, counts_in, size_at, operand_at}

-- the counts where the header's bytes are all there, else all 0
unfoldable pub whole_counts : List ℕ → Counts
whole_counts s = choose (leb head_size (length s)) (counts_in s) (record { inputs = 0; gates = 0; outputs = 0 })

-- the gate record at p
unfoldable pub quad_in : Form → List ℕ → ℕ → Quad
quad_in form s p =
    record {
      kind = get_or s (p + 2) 0;
      a = operand_at form s p 0;
      b = operand_at form s p 1;
      c = operand_at form s p 2;
      size = size_at form s p;
    }

-- whether the bytes of the gate record at p are all there
unfoldable pub gate_there : Form → List ℕ → ℕ → Bool
gate_there form s p = leb (p + size_at form s p) (length s)

-- the gate record at p where its bytes are all there, else all 0
unfoldable pub whole_quad : Form → List ℕ → ℕ → Quad
whole_quad form s p =
    choose (gate_there form s p) (quad_in form s p) (record { kind = 0; a = 0; b = 0; c = 0; size = 0 })
