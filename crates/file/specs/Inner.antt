-- Inner: only contracts of private functions cite this. What a step of writing hands to the next.
use Rattle.std.specs.Prelude.{ℕ, ◌+◌, ◌<◌, ◌≤◌, List, length, get_or}
use Rattle.netlist.specs.Words.{gate_place}
use Rattle.netlist.specs.Check.{gate_limit}
use Rattle.records.specs.declared.form.Form.{Form}
use Rattle.records.specs.Bytes.{joined}
use Rattle.records.specs.File.{head_size}
use Rattle.file.specs.File.{gate_bytes}

-- a netlist whose first n gates can be written, and room for their records
pub record Room (form : Form) (net : List ℕ) (n room : ℕ) : Type 0 where
  pub few : n ≤ gate_limit
  pub long : gate_place n ≤ length net
  pub kinds : (g : ℕ) → g < n → get_or net (gate_place g) 0 < 256
  pub space : head_size + length (joined n (gate_bytes form net)) ≤ room
