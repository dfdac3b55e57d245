use mathlib.Core.Path.{◌≡◌, ◌∙◌, ap, refl}
use mathlib.Core.List.{List}
use Prim.Native.Nat.{ℕ, ◌+◌, ◌*◌, ◌-◌, ◌^◌, ◌<◌}
use native.Mathlib.Omega.{arith}
use lib.ListN.{take, drop}
use Rattle.kreyvium.specs.Words.{packed}
use Rattle.kreyvium.proofs.Packed.{part_lt}
use Rattle.cipher.proofs.Halves.{part, part_eight}
use Rattle.cipher.proofs.stream.Bits.word.Goals.{After-eight, In-loop-e}
use Rattle.cipher.proofs.stream.Bits.word.Goals as goal

start : (l : List ℕ) → 0 ≡ packed (take (64 - 64) l)
unfolding packed
start l = refl

-- there is room for eight bits more, and they are eight
narrow : (c : In-loop-e) → c.loop-e.w < 2 ^ 56
narrow c =
    let i = 8 * c.loop-e.e in
    rw c.loop-e.invariant (part_lt c.args.self.now.list.now (c.args.from + i) (64 - i) 56 (omega arith) c.args.self.now.small)

low : (c : After-eight) → c.eight.result < 2 ^ 8
low c =
    rw c.eight.ensures (part_lt c.args.self.now.list.now (c.args.from + 8 * (c.loop-e.e - 1)) 8 8 (omega arith) c.args.self.now.small)

pub loop-e-init : goal.loop-e-init
loop-e-init c = start (drop (c.args.from + 64) c.args.self.now.list.now)

pub overflow_mul-w : goal.overflow_mul-w
overflow_mul-w c = omega (arith, narrow c)

pub overflow_add-w : goal.overflow_add-w
overflow_add-w c = omega (arith, narrow (goal.at.overflow_add-w c).In-loop-e, low c)

pub eight-requires : goal.eight-requires
eight-requires c = omega arith

pub loop-e-preserved : goal.loop-e-preserved
loop-e-preserved c =
    let i = 8 * c.loop-e.e in
    let n : 8 * (c.loop-e.e - 1) ≡ i - 8 = omega arith in
    rw n (part_eight c.args.self.now.list.now c.args.from i c.loop-e.w _ (omega arith) (omega arith) (omega arith) c.requires c.loop-e.invariant (rw n at c.eight.ensures))

pub returns : goal.returns
returns c =
    let a = c.args in
    let e : 8 * c.loop-e.e ≡ 0 = omega arith in
    let z : a.from + 0 ≡ a.from = omega arith in
    c.loop-e.invariant ∙ ap (λ (j : ℕ). part a.self.now.list.now (a.from + j) (64 - j)) e ∙ ap (λ (j : ℕ). part a.self.now.list.now j 64) z
