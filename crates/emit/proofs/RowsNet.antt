-- The netlist's words from its parts, the room that these take, and how many gates there are.
use Prim.Native.Nat.{ℕ, ◌+◌, ◌*◌, ◌<◌, ◌≤◌}
use mathlib.Core.Path.{◌≡◌, sym, ap, ap₂, ◌∙◌}
use mathlib.Core.List.{List}
use native.Mathlib.Omega.{arith}
use native.Mathlib.Nat.{mul-le-mul}
use lib.ListN.{length, take, length-take}
use lib.Seq.{sets}
use Rattle.answer.specs.Fronts.{over}
use Rattle.netlist.specs.Words.{header_words, gate_place, header, words}
use Rattle.netlist.specs.Put.{put_gates}
use Rattle.netlist.proofs.Puts.{words-length, net_put}
use Rattle.instance.specs.Table.{key_bits, row_bits}
use Rattle.instance.proofs.Judged.{row_small}
use Rattle.filter.specs.Filter.{ones}
use Rattle.filter.proofs.Sums.{ones_le}
use Rattle.wiring.specs.Exp.{chain}
use Rattle.wiring.specs.Costs.{cost_of}
use Rattle.wiring.specs.Decipher.{bits_gates, bits_outs, rows_net}
use Rattle.wiring.specs.Rows.{Rows}
use Rattle.wiring.proofs.Claims.{rows_gates, rows_outs}
use Rattle.emit.specs.InnerRows.{Wiring}

module _ (inst m : ℕ) (idx wh : List ℕ) (W : Wiring inst m idx wh) where
  net_outs : length (rows_net chain inst idx wh m).outs ≡ m
  net_outs = rows_outs inst m idx wh W.low W.high W.rows

  -- in the code's words: l outputs behind next wires
  module _ (l next : ℕ) (el : l ≡ m) (en : next ≡ key_bits inst + m) where
    gates_are : bits_gates chain inst idx wh l 0 next ≡ (rows_net chain inst idx wh m).gates
    unfolding rows_net
    gates_are = ap₂ (λ (k n : ℕ). bits_gates chain inst idx wh k 0 n) el en

    outs_are : bits_outs chain inst idx wh l 0 next ≡ (rows_net chain inst idx wh m).outs
    unfolding rows_net
    outs_are = ap₂ (λ (k n : ℕ). bits_outs chain inst idx wh k 0 n) el en

    inputs_are : next ≡ (rows_net chain inst idx wh m).inputs
    unfolding rows_net
    inputs_are = en

    pub bits_room : (len : ℕ) → length (words (rows_net chain inst idx wh m)) ≤ len → gate_place (length (bits_gates chain inst idx wh l 0 next)) ≤ len
    bits_room len h = omega (arith, words-length (rows_net chain inst idx wh m), ap length gates_are)

    pub net_stored : (out o₁ o₂ o₃ wires : List ℕ) (g : ℕ) → g ≡ length (rows_net chain inst idx wh m).gates → length (words (rows_net chain inst idx wh m)) ≤ length out
        → o₁ ≡ sets out 0 (header record { inputs = next; gates = g; outputs = m }) → o₂ ≡ put_gates o₁ header_words (bits_gates chain inst idx wh l 0 next) → wires ≡ bits_outs chain inst idx wh l 0 next
        → o₃ ≡ sets o₂ (gate_place g) wires → o₃ ≡ over (words (rows_net chain inst idx wh m)) out
    net_stored out o₁ o₂ o₃ wires g eg room e₁ e₂ ew e₃ =
        net_put (rows_net chain inst idx wh m) out o₁ o₂ o₃ _ (gate_place g)
        (λ k. record { inputs = inputs_are k; gates = eg k; outputs = sym net_outs k }) (ap gate_place eg) room e₁
        (e₂ ∙ ap (put_gates o₁ header_words) gates_are) (e₃ ∙ ap (sets o₂ (gate_place g)) (ew ∙ outs_are))

  -- room for l outputs behind g gates
  pub outs_room : (len g l : ℕ) → l ≡ m → g ≡ length (rows_net chain inst idx wh m).gates → length (words (rows_net chain inst idx wh m)) ≤ len → gate_place g + l ≤ len
  outs_room len g l el eg h = omega (arith, words-length (rows_net chain inst idx wh m), net_outs)

-- the front of a room that is long enough
pub front_long : (n k : ℕ) (l : List ℕ) → n ≡ k → n ≤ length l → length (take n l) ≡ k
front_long n k l e h = omega (arith, length-take n l)

pub wiring_of : (inst m l : ℕ) (idx wh : List ℕ) → l ≡ m → Wiring inst m idx wh → Wiring inst l idx wh
wiring_of inst m l idx wh e W = rw e W

-- ---- the count in code
pub count_is : (inst m n b : ℕ) (idx wh : List ℕ) → 1 ≤ inst → inst ≤ 5 → Rows inst m idx wh → n ≡ ones wh → b ≡ (cost_of inst).gates → n + m * b ≡ length (rows_net chain inst idx wh m).gates
count_is inst m n b idx wh low high R en eb = ap₂ (λ (x y : ℕ). x + m * y) en eb ∙ sym (rows_gates inst m idx wh low high R)

pub white_small : (inst m : ℕ) (wh : List ℕ) → m ≤ 64 → length wh ≡ m * row_bits inst → length wh < 4294967296
white_small inst m wh few e = omega (arith, mul-le-mul few (row_small inst))

pub record Small (m n b : ℕ) : Type 0 where
  pub product : m * b ≤ 89216
  pub total : n + m * b ≤ 178432

pub count_small : (inst m n b : ℕ) (wh : List ℕ) → m ≤ 64 → length wh ≡ m * row_bits inst → n ≡ ones wh → b ≤ 1394 → Small m n b
count_small inst m n b wh few e en k =
    let p = mul-le-mul few k in
    let r = mul-le-mul few (row_small inst) in
    let o = ones_le wh in
    record { product = omega arith; total = omega arith }
