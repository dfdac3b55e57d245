-- Kreyvium: docs/RULES.md, "Kreyvium", in its order and with its numbers, after paper 003, section 3.3.
-- A bit is 0 or 1, and sums of bits are modulo 2.
use Rattle.std.specs.Prelude.{List, [], ◌∷◌, ◌++◌, ℕ, zero, suc, ◌+◌, ◌*◌, ◌-◌, ◌%◌, length, take, drop, get_or, replicate}

-- a is s1..s93, b is s94..s177, c is s178..s288; k is K* and v is IV*, bit 127 first and bit 0 last. X is what stands in
-- a place: a bit here, and elsewhere the wire that carries it, or that wire's depth.
pub record Registers (X : Type 0) : Type 0 where
  pub a : List X
  pub b : List X
  pub c : List X
  pub k : List X
  pub v : List X

-- s1..s93 = K0..K92; s94..s177 = IV0..IV83; s178..s288 = IV84..IV127, then 66 ones, then one zero;
-- K*127..K*0 = K0..K127, and IV* alike
unfoldable pub loaded : {X : Type 0} → X → X → List X → List X → Registers X
loaded nought one key iv = record {
  a = take 93 key;
  b = take 84 iv;
  c = drop 84 iv ++ (replicate 66 one ++ (nought ∷ []));
  k = key;
  v = iv;
}

-- s1..s93, s94..s177, s178..s288 by number, K*0 and IV*0; d stands for a place that is not there
module _ {X : Type 0} (d : X) (s : Registers X) where
  abbrev pub s_a : ℕ → X
  s_a i = get_or s.a (i - 1) d

  abbrev pub s_b : ℕ → X
  s_b i = get_or s.b (i - 94) d

  abbrev pub s_c : ℕ → X
  s_c i = get_or s.c (i - 178) d

  abbrev pub k0 : X
  k0 = get_or s.k 127 d

  abbrev pub v0 : X
  v0 = get_or s.v 127 d

-- t1 = s66+s93; t2 = s162+s177; t3 = s243+s288+K*0: t1+t2+t3 is output
unfoldable pub out_of : Registers ℕ → ℕ
out_of s = (s_a 0 s 66 + s_a 0 s 93 + s_b 0 s 162 + s_b 0 s 177 + s_c 0 s 243 + s_c 0 s 288 + k0 0 s) % 2

-- what t1, t2, t3 become: t1 gains s91·s92 + s171 + IV*0; t2 gains s175·s176 + s264; t3 gains s286·s287 + s69
unfoldable pub t1 : Registers ℕ → ℕ
t1 s = (s_a 0 s 66 + s_a 0 s 93 + s_a 0 s 91 * s_a 0 s 92 + s_b 0 s 171 + v0 0 s) % 2

unfoldable pub t2 : Registers ℕ → ℕ
t2 s = (s_b 0 s 162 + s_b 0 s 177 + s_b 0 s 175 * s_b 0 s 176 + s_c 0 s 264) % 2

unfoldable pub t3 : Registers ℕ → ℕ
t3 s = (s_c 0 s 243 + s_c 0 s 288 + k0 0 s + s_c 0 s 286 * s_c 0 s 287 + s_a 0 s 69) % 2

-- a register moves one place up: x enters at the first, and the last leaves
unfoldable pub push : {X : Type 0} → X → List X → List X
push x r = take (length r) (x ∷ r)

-- x enters at s1, y at s94 and z at s178; K* and IV* turn by one, K*0 to K*127
unfoldable pub moved : {X : Type 0} → X → Registers X → X → X → X → Registers X
moved d s x y z = record {
  a = push x s.a;
  b = push y s.b;
  c = push z s.c;
  k = push (k0 d s) s.k;
  v = push (v0 d s) s.v;
}

-- t3 enters at s1, t1 at s94, t2 at s178
unfoldable pub round_of : Registers ℕ → Registers ℕ
round_of s = moved 0 s (t3 s) (t1 s) (t2 s)

-- n rounds
unfoldable pub rounds : ℕ → Registers ℕ → Registers ℕ
rounds zero s = s
rounds (suc n) s = rounds n (round_of s)

-- the outputs of n rounds
unfoldable pub stream : ℕ → Registers ℕ → List ℕ
stream zero s = []
stream (suc n) s = out_of s ∷ stream n (round_of s)

-- the keystream's first m bits: output begins with round 1,153
unfoldable pub stream_of : List ℕ → List ℕ → ℕ → List ℕ
stream_of key iv m = stream m (rounds 1152 (loaded 0 1 key iv))
