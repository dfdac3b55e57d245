-- A sound netlist is accepted by the meter, and the numbers it returns are the netlist's.
use Prim.Native.Nat.{ℕ}
use mathlib.Core.Path.{◌≡◌, sym, ◌∙◌}
use mathlib.Core.List.{List}
use Rattle.std.specs.Prelude.{Ok}
use Rattle.answer.proofs.Rows.{both, told}
use Rattle.answer.proofs.Judges.{done_room}
use Rattle.netlist.specs.Net.{depth, mults}
use Rattle.netlist.specs.Words.{net_of}
use Rattle.netlist.specs.Sound.{Sound}
use Rattle.netlist.proofs.Accepted.{sound_done}
use Rattle.meter.specs.declared.Metered.{Metered}
use Rattle.meter.specs.Meter.{depths_answer, levels_answer, meter_answer}
use Rattle.claims.specs.Demands.{MeterCall}

module _ (net : List ℕ) (r : Metered) (s : Sound net) (m : MeterCall net r) where
  -- A sound netlist is accepted.
  pub meter_accepts : r.answer ≡ Ok tt
  unfolding meter_answer depths_answer levels_answer
  meter_accepts =
      m.outcome.answered
      ∙ both (both (sound_done 1 net s) (done_room 2 _ _ m.wires)) (done_room 3 _ _ m.levels)

  pub depth_is : r.depth ≡ depth (net_of net)
  depth_is = m.outcome.deep ∙ sym (told _ meter_accepts)

  pub mults_is : r.multiplications ≡ mults (net_of net)
  mults_is = m.outcome.multiplied ∙ sym (told _ meter_accepts)
