-- What the deciphering netlists cost: the rules' table.
use Rattle.std.specs.Prelude.{ℕ, zero, suc}

-- one bit, its products as chains: multiplications, depth, and gates without the NOTs of its whitening
pub record Cost : Type 0 where
  pub mults : ℕ
  pub depth : ℕ
  pub gates : ℕ

abbrev pub cost : ℕ → ℕ → ℕ → Cost
cost M D G = record { mults = M; depth = D; gates = G }

-- 1 FLIP-530, 2 FLIP-1394, 3 FiLIP-1216, 4 FiLIP-1280: a gate for each variable but the first, and the record bit's XOR.
-- 5 FiLIP-144: 80 XORs, 1115 gates of threshold 32 of 63, and two XORs more
unfoldable pub cost_of : ℕ → Cost
cost_of zero = cost 0 0 0
cost_of (suc zero) = cost 352 8 530
cost_of (suc (suc zero)) = cost 1072 15 1394
cost_of (suc (suc (suc zero))) = cost 864 7 1216
cost_of (suc (suc (suc (suc zero)))) = cost 1024 15 1280
cost_of (suc (suc (suc (suc (suc zero))))) = cost 1053 62 1197
cost_of (suc (suc (suc (suc (suc (suc i)))))) = cost 0 0 0
