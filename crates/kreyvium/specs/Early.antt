-- 64 rounds at once. Only promises of private functions cite this.
--
-- Every tap stands at the 66th place of its register or above, so what the next 64 rounds read is in the registers before
-- the first of them. A word holds a bit for each of the 64 rounds: the first round's at place 63, the last one's at place 0.
use Rattle.std.specs.Prelude.{◌≡◌, List, ◌++◌, ℕ, ◌<◌, drop, replicate}
use Rattle.kreyvium.specs.declared.State.{State}
use Rattle.kreyvium.specs.declared.Entry.{Entry}
use Rattle.kreyvium.specs.Kreyvium.{Registers, t1, t2, t3}
use Rattle.kreyvium.specs.Words.{bit, reg}

-- a register as the round of place i finds it: 63 - i places further up. What enters until then stands below place 63,
-- where no tap reads, and is left open as zeros.
unfoldable pub later : ℕ → List ℕ → List ℕ
later i r = replicate 63 0 ++ drop i r

unfoldable pub early : State → ℕ → Registers ℕ
early s i = record {
  a = later i (reg 93 s.a);
  b = later i (reg 84 s.b);
  c = later i (reg 111 s.c);
  k = later i (reg 128 s.k);
  v = later i (reg 128 s.v);
}

-- the words that enter in the next 64 rounds
pub record Right (s : State) (e : Entry) : Type 0 where
  pub a : (i : ℕ) → i < 64 → bit e.a i ≡ t3 (early s i)
  pub b : (i : ℕ) → i < 64 → bit e.b i ≡ t1 (early s i)
  pub c : (i : ℕ) → i < 64 → bit e.c i ≡ t2 (early s i)
