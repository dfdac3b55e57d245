-- Registers: their lengths, and what stands in them mapped to something else, a wire to what it carries.
use mathlib.Core.Path.{◌≡◌, refl, ap, ap₂, sym, ◌∙◌}
use mathlib.Core.List.{List, [], ◌∷◌, ◌++◌, map}
use Prim.Native.Nat.{ℕ, zero, suc}
use native.Mathlib.Omega.{arith}
use lib.ListN.{length, take, drop, get_or, replicate, length-map, length-append, length-drop, length-replicate}
use lib.Seq.{length-take-le}
use Rattle.netlist.proofs.Glued.{get_or-map_lt, map-append}
use Rattle.kreyvium.specs.Kreyvium.{Registers, push, k0, v0, moved, loaded}
use Rattle.kreyvium.proofs.Streams.{registers_eq}
use Rattle.rounds.specs.Gates.{bit_of}

map-take : {X Y : Type 0} (f : X → Y) (n : ℕ) (l : List X) → map f (take n l) ≡ take n (map f l)
map-take f zero l = refl
map-take f (suc n) [] = refl
map-take f (suc n) (x ∷ l) = ap (λ (r : List _). f x ∷ r) (map-take f n l)

map-drop : {X Y : Type 0} (f : X → Y) (n : ℕ) (l : List X) → map f (drop n l) ≡ drop n (map f l)
map-drop f zero l = refl
map-drop f (suc n) [] = refl
map-drop f (suc n) (x ∷ l) = map-drop f n l

map-replicate : {X Y : Type 0} (f : X → Y) (n : ℕ) (x : X) → map f (replicate n x) ≡ replicate n (f x)
map-replicate f zero x = refl
map-replicate f (suc n) x = ap (λ (r : List _). f x ∷ r) (map-replicate f n x)

map_push : {X Y : Type 0} (f : X → Y) (x : X) (l : List X) → map f (push x l) ≡ push (f x) (map f l)
unfolding push
map_push f x l = map-take f (length l) (x ∷ l) ∙ ap (λ (n : ℕ). take n (f x ∷ map f l)) (sym (length-map l f))

pub length_push : {X : Type 0} (x : X) (l : List X) → length (push x l) ≡ length l
unfolding push
length_push x l = length-take-le (length l) (x ∷ l) (omega arith)

pub record Sized {X : Type 0} (s : Registers X) : Type 0 where
  pub a : length s.a ≡ 93
  pub b : length s.b ≡ 84
  pub c : length s.c ≡ 111
  pub k : length s.k ≡ 128
  pub v : length s.v ≡ 128

pub moved_sized : {X : Type 0} (d : X) (s : Registers X) (x y z : X) → Sized s → Sized (moved d s x y z)
unfolding moved
moved_sized d s x y z q = record {
  a = length_push x _ ∙ q.a;
  b = length_push y _ ∙ q.b;
  c = length_push z _ ∙ q.c;
  k = length_push (k0 d s) _ ∙ q.k;
  v = length_push (v0 d s) _ ∙ q.v;
}

pub loaded_sized : {X : Type 0} (z o : X) (key iv : List X) → length key ≡ 128 → length iv ≡ 128 → Sized (loaded z o key iv)
unfolding loaded
loaded_sized z o key iv hk hv = record {
  a = length-take-le 93 key (omega arith);
  b = length-take-le 84 iv (omega arith);
  c = omega (arith, length-append (drop 84 iv) (replicate 66 o ++ (z ∷ [])), length-append (replicate 66 o) (z ∷ []), length-replicate 66 o, length-drop 84 iv);
  k = hk;
  v = hv;
}

abbrev pub map_registers : {X Y : Type 0} → (X → Y) → Registers X → Registers Y
map_registers f s = record { a = map f s.a; b = map f s.b; c = map f s.c; k = map f s.k; v = map f s.v }

turn : {X Y : Type 0} (f : X → Y) (d : X) (e : Y) (l : List X) → length l ≡ 128 → map f (push (get_or l 127 d) l) ≡ push (get_or (map f l) 127 e) (map f l)
turn f d e l h = map_push f _ l ∙ ap (λ x. push x (map f l)) (sym (get_or-map_lt f l 127 d e (omega arith)))

-- what is moved and then read is what is read and then moved
pub map-moved : {X Y : Type 0} (f : X → Y) (d : X) (e : Y) (s : Registers X) (x y z : X) → Sized s
    → map_registers f (moved d s x y z) ≡ moved e (map_registers f s) (f x) (f y) (f z)
unfolding moved
map-moved f d e s x y z q =
    registers_eq (map_push f x _) (map_push f y _) (map_push f z _) (turn f d e s.k q.k) (turn f d e s.v q.v)

pub moved_eq : {X : Type 0} (d : X) (s : Registers X) {x x' y y' z z' : X} → x ≡ x' → y ≡ y' → z ≡ z' → moved d s x y z ≡ moved d s x' y' z'
moved_eq d s p q r i = moved d s (p i) (q i) (r i)

pub map-bits : {X Y : Type 0} (f : X → Y) (z o : X) (iv : List ℕ) → map f (map (bit_of z o) iv) ≡ map (bit_of (f z) (f o)) iv
unfolding bit_of
map-bits f z o [] = refl
map-bits f z o (zero ∷ iv) = ap (λ (l : List _). f z ∷ l) (map-bits f z o iv)
map-bits f z o (suc b ∷ iv) = ap (λ (l : List _). f o ∷ l) (map-bits f z o iv)

pub map-loaded : {X Y : Type 0} (f : X → Y) (z o : X) (key iv : List X) → map_registers f (loaded z o key iv) ≡ loaded (f z) (f o) (map f key) (map f iv)
unfolding loaded
map-loaded f z o key iv =
    registers_eq (map-take f 93 key) (map-take f 84 iv)
    (map-append f (drop 84 iv) (replicate 66 o ++ (z ∷ []))
    ∙ ap₂ ◌++◌ (map-drop f 84 iv) (map-append f (replicate 66 o) (z ∷ []) ∙ ap (λ (l : List _). l ++ (f z ∷ [])) (map-replicate f 66 o)))
    refl refl
