-- Kreyvium's registers with key and IV loaded in reverse, beside `loaded` of crate kreyvium.
use Rattle.std.specs.Prelude.{List, [], ◌∷◌, ◌++◌, reverse, ℕ, take, drop, replicate}
use Rattle.kreyvium.specs.Kreyvium.{Registers}

-- s1 = K127 .. s93 = K35; s94 = IV127 .. s221 = IV0, then 66 ones, then one zero; K* and IV* as the rules have them
unfoldable pub loaded_in_reverse : List ℕ → List ℕ → Registers ℕ
loaded_in_reverse key iv = record {
  a = take 93 (reverse key);
  b = take 84 (reverse iv);
  c = drop 84 (reverse iv) ++ (replicate 66 1 ++ (0 ∷ []));
  k = key;
  v = iv;
}
