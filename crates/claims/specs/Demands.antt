-- What the theorems of proofs/Demands.antt speak of, beside the calls' own promises.
use Rattle.std.specs.Prelude.{ℕ, ◌+◌, ◌*◌, ◌%◌, ◌<◌, ◌≤◌, ◌≡◌, List, length, get_or, take}
use Rattle.netlist.specs.Words.{inputs_of, gates_of, words, net_of}
use Rattle.netlist.specs.Check.{gate_limit}
use Rattle.netlist.specs.Sound.{Sound}
use Rattle.instance.specs.Table.{row_bits}
use Rattle.meter.specs.declared.Level.{Level}
use Rattle.meter.specs.declared.Metered.{Metered}
use Rattle.meter.specs.Levels.{level_count}
use Rattle.meter.specs.Meter.{MeteredAs}
use Rattle.filter.specs.Papers.{published}
use Rattle.kreyvium.specs.Kreyvium.{stream_of}
use Rattle.emit.specs.Emit.{decipher_net}

-- the first m bits of a list are the keystream bits as published, of the key's bits
pub record AsPublished (inst m : ℕ) (key idx wh out : List ℕ) : Type 0 where
  -- instances 1 to 5, 000 and 001: bit t is the filter of row t, whose variable j is key[p(j)] + w(j); rows stand end to end
  pub filtered : 1 ≤ inst → inst ≤ 5 → (t : ℕ) → t < m
      → get_or out t 0 ≡ published inst (λ j. (get_or key (get_or idx (t * row_bits inst + j) 0) 0 + get_or wh (t * row_bits inst + j) 0) % 2)
  -- instance 6, 003: the keystream of the key and the IV
  pub streamed : inst ≡ 6 → take m out ≡ stream_of key wh m

-- the words of the deciphering netlist
abbrev pub net_words : ℕ → ℕ → List ℕ → List ℕ → List ℕ
net_words inst m idx wh = words (decipher_net inst m idx wh)

-- A scoring netlist that may stand behind these words: sound, with m inputs, within the limit of gates together.
pub record Scores (inst m : ℕ) (idx wh score : List ℕ) : Type 0 where
  pub sound : Sound score
  pub inputs : inputs_of score ≡ m
  pub few : gates_of (net_words inst m idx wh) + gates_of score ≤ gate_limit

-- A call of the meter with a depth word for each wire and a level record for each depth up to the largest of any gate, and what
-- it returned.
pub record MeterCall (net : List ℕ) (r : Metered) : Type 0 where
  pub ds : List ℕ
  pub ls : List Level
  pub ds' : List ℕ
  pub ls' : List Level
  pub wires : inputs_of net + gates_of net ≤ length ds
  pub levels : level_count (net_of net) ≤ length ls
  pub outcome : MeteredAs net ds ls r ds' ls'
