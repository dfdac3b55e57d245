-- Every gate uses earlier wires; how many gates and multiplications there are.
use mathlib.Core.Path.{◌≡◌, refl, ap}
use mathlib.Core.List.{List, [], ◌∷◌, ◌++◌, map}
use Prim.Native.Nat.{ℕ, zero, suc, ◌+◌, ◌*◌, ◌≤◌, ◌<◌}
use native.Mathlib.Omega.{arith}
use lib.ListN.{length, get_or, take, drop, replicate}
use Rattle.netlist.specs.declared.gate.Gate.{Gate}
use Rattle.netlist.specs.Net.{GatesWired, Below, Valid, muls_of, mults}
use Rattle.netlist.specs.Glue.{up_from}
use Rattle.netlist.specs.Words.{words}
use Rattle.netlist.specs.Sound.{Sound}
use Rattle.netlist.proofs.Glued.{wired_append}
use Rattle.netlist.proofs.Words.{valid_sound}
use Rattle.kreyvium.specs.Kreyvium.{Registers, push, moved, loaded}
use Rattle.rounds.specs.Gates.{bit_of, head_gates, out_gates, tail_gates, move_wires, gates_from, outs_from, start_wires, kreyvium_gates, kreyvium_net}

infixr 20 ◌&◌
◌&◌ : {P Q : Type 0} → P → Q → P × Q
p & q = (p, q)

-- P holds at every place, and of 0, which stands past the end
abbrev pub Every : (ℕ → Type 0) → List ℕ → Type 0
Every P l = (j : ℕ) → P (get_or l j 0)

pub every_cons : (P : ℕ → Type 0) (x : ℕ) (l : List ℕ) → P x → Every P l → Every P (x ∷ l)
every_cons P x l p h zero = p
every_cons P x l p h (suc j) = h j

pub every_take : (P : ℕ → Type 0) → P 0 → (n : ℕ) (l : List ℕ) → Every P l → Every P (take n l)
every_take P o zero l h j = o
every_take P o (suc n) [] h j = o
every_take P o (suc n) (x ∷ l) h zero = h zero
every_take P o (suc n) (x ∷ l) h (suc j) = every_take P o n l (λ i. h (suc i)) j

pub every_drop : (P : ℕ → Type 0) → P 0 → (n : ℕ) (l : List ℕ) → Every P l → Every P (drop n l)
every_drop P o zero l h j = h j
every_drop P o (suc n) [] h j = o
every_drop P o (suc n) (x ∷ l) h j = every_drop P o n l (λ i. h (suc i)) j

pub every_append : (P : ℕ → Type 0) (l r : List ℕ) → Every P l → Every P r → Every P (l ++ r)
every_append P [] r h g j = g j
every_append P (x ∷ l) r h g zero = h zero
every_append P (x ∷ l) r h g (suc j) = every_append P l r (λ i. h (suc i)) g j

pub every_replicate : (P : ℕ → Type 0) → P 0 → (n x : ℕ) → P x → Every P (replicate n x)
every_replicate P o zero x p j = o
every_replicate P o (suc n) x p zero = p
every_replicate P o (suc n) x p (suc j) = every_replicate P o n x p j

pub every_push : (P : ℕ → Type 0) (x : ℕ) (l : List ℕ) → P 0 → P x → Every P l → Every P (push x l)
unfolding push
every_push P x l o p h = every_take P o (length l) (x ∷ l) (every_cons P x l p h)

pub record All (P : ℕ → Type 0) (s : Registers ℕ) : Type 0 where
  pub a : Every P s.a
  pub b : Every P s.b
  pub c : Every P s.c
  pub k : Every P s.k
  pub v : Every P s.v

pub all_moved : (P : ℕ → Type 0) (s : Registers ℕ) (x y z : ℕ) → P 0 → P x → P y → P z → All P s → All P (moved 0 s x y z)
unfolding moved
all_moved P s x y z o px py pz h = record {
  a = every_push P x s.a o px h.a;
  b = every_push P y s.b o py h.b;
  c = every_push P z s.c o pz h.c;
  k = every_push P _ s.k o (h.k _) h.k;
  v = every_push P _ s.v o (h.v _) h.v;
}

pub all-loaded : (P : ℕ → Type 0) (z o : ℕ) (key iv : List ℕ) → P 0 → P z → P o → Every P key → Every P iv → All P (loaded z o key iv)
unfolding loaded
all-loaded P z o key iv p pz po hk hv = record {
  a = every_take P p 93 key hk;
  b = every_take P p 84 iv hv;
  c = every_append P (drop 84 iv) _ (every_drop P p 84 iv hv) (every_append P (replicate 66 o) (z ∷ []) (every_replicate P p 66 o po) (every_cons P z [] pz (λ j. p)));
  k = hk;
  v = hv;
}

pub all_more : (P Q : ℕ → Type 0) (s : Registers ℕ) → ((x : ℕ) → P x → Q x) → All P s → All Q s
all_more P Q s f h = record {
  a = λ j. f _ (h.a j);
  b = λ j. f _ (h.b j);
  c = λ j. f _ (h.c j);
  k = λ j. f _ (h.k j);
  v = λ j. f _ (h.v j);
}

abbrev pub Under : ℕ → Registers ℕ → Type 0
Under w s = All (λ x. x < w) s

far : {x w v : ℕ} → x < w → w ≤ v → x < v
far h q = omega arith

module _ (w : ℕ) (s : Registers ℕ) (b : Under w s) where
  head_wired : GatesWired w (head_gates w s)
  head_wired =
      (b.a _, b.a _)
      & (far (b.b _) (omega arith), far (b.b _) (omega arith))
      & (far (b.c _) (omega arith), far (b.c _) (omega arith))
      & (omega arith, far (b.k _) (omega arith))
      & tt

  out_wired : (x : ℕ) → x < w → GatesWired (w + 4) (out_gates w (w + 4) x)
  out_wired x h = (omega arith, omega arith) & (omega arith, omega arith) & (omega arith, omega arith) & tt

  tail_wired : (u : ℕ) → w + 4 ≤ u → GatesWired u (tail_gates w u s)
  tail_wired u h =
      (far (b.a _) (omega arith), far (b.a _) (omega arith))
      & (omega arith, omega arith)
      & (omega arith, far (b.b _) (omega arith))
      & (omega arith, far (b.v _) (omega arith))
      & (far (b.b _) (omega arith), far (b.b _) (omega arith))
      & (omega arith, omega arith)
      & (omega arith, far (b.c _) (omega arith))
      & (far (b.c _) (omega arith), far (b.c _) (omega arith))
      & (omega arith, omega arith)
      & (omega arith, far (b.a _) (omega arith))
      & tt

  move_under : (u w' : ℕ) → w ≤ u → u + 10 ≡ w' → Under w' (move_wires u s)
  unfolding move_wires
  move_under u w' h e =
      all_moved (λ x. x < w') s (u + 9) (u + 3) (u + 6) (omega arith) (omega arith) (omega arith) (omega arith)
      (all_more (λ x. x < w) (λ x. x < w') s (λ x q. omega arith) b)

wired_then : (w w' : ℕ) (gs hs : List Gate) → w + length gs ≡ w' → GatesWired w gs → GatesWired w' hs → GatesWired w (gs ++ hs)
wired_then w w' gs hs e g h = wired_append w gs hs g (rw e h)

pub from_wired : (n m x w : ℕ) (s : Registers ℕ) → Under w s → x + m ≤ w → GatesWired w (gates_from n m x w s)
unfolding gates_from
from_wired (suc n) m x w s b h =
    let tail = tail_gates w (w + 4) s in
    let rest = gates_from n m x (w + 14) (move_wires (w + 4) s) in
    wired_then w (w + 4) (head_gates w s) (tail ++ rest) refl (head_wired w s b)
    (wired_then (w + 4) (w + 14) tail rest (omega arith) (tail_wired w s b (w + 4) (omega arith))
    (from_wired n m x (w + 14) (move_wires (w + 4) s) (move_under w s b (w + 4) (w + 14) (omega arith) (omega arith)) (omega arith)))
from_wired zero (suc m) x w s b h =
    let out = out_gates w (w + 4) x in
    let tail = tail_gates w (w + 7) s in
    let rest = gates_from zero m (suc x) (w + 17) (move_wires (w + 7) s) in
    wired_then w (w + 4) (head_gates w s) (out ++ (tail ++ rest)) refl (head_wired w s b)
    (wired_then (w + 4) (w + 7) out (tail ++ rest) (omega arith) (out_wired w s b x (omega arith))
    (wired_then (w + 7) (w + 17) tail rest (omega arith) (tail_wired w s b (w + 7) (omega arith))
    (from_wired zero m (suc x) (w + 17) (move_wires (w + 7) s) (move_under w s b (w + 7) (w + 17) (omega arith) (omega arith)) (omega arith))))
from_wired zero zero x w s b h = tt

pub from-length : (n m x w : ℕ) (s : Registers ℕ) → length (gates_from n m x w s) ≡ 14 * n + 17 * m
unfolding gates_from
from-length (suc n) m x w s = omega (arith, from-length n m x (w + 14) (move_wires (w + 4) s))
from-length zero (suc m) x w s = omega (arith, from-length zero m (suc x) (w + 17) (move_wires (w + 7) s))
from-length zero zero x w s = refl

pub from-muls : (n m x w : ℕ) (s : Registers ℕ) → muls_of (gates_from n m x w s) ≡ 3 * (n + m)
unfolding gates_from
from-muls (suc n) m x w s = omega (arith, from-muls n m x (w + 14) (move_wires (w + 4) s))
from-muls zero (suc m) x w s = omega (arith, from-muls zero m (suc x) (w + 17) (move_wires (w + 7) s))
from-muls zero zero x w s = refl

pub outs_below : (n m w w' : ℕ) → w + 14 * n + 17 * m ≤ w' → Below w' (outs_from n m w)
unfolding outs_from
outs_below (suc n) m w w' h = outs_below n m (w + 14) w' (omega arith)
outs_below zero (suc m) w w' h = (omega arith, outs_below zero m (w + 17) w' (omega arith))
outs_below zero zero w w' h = tt

pub outs_length : (n m w : ℕ) → length (outs_from n m w) ≡ m
unfolding outs_from
outs_length (suc n) m w = outs_length n m (w + 14)
outs_length zero (suc m) w = ap suc (outs_length zero m (w + 17))
outs_length zero zero w = refl

-- ---- the whole netlist
up_under : (k n b : ℕ) → k + n ≤ b → 0 < b → Every (λ x. x < b) (up_from k n)
up_under k zero b h o j = o
up_under k (suc n) b h o zero = omega arith
up_under k (suc n) b h o (suc j) = up_under (suc k) n b (omega arith) o j

bits_every : (P : ℕ → Type 0) (z o : ℕ) → P 0 → P z → P o → (iv : List ℕ) → Every P (map (bit_of z o) iv)
unfolding bit_of
bits_every P z o p pz po [] j = p
bits_every P z o p pz po (zero ∷ iv) zero = pz
bits_every P z o p pz po (suc b ∷ iv) zero = po
bits_every P z o p pz po (x ∷ iv) (suc j) = bits_every P z o p pz po iv j

start_under : (iv : List ℕ) (m : ℕ) → Under (130 + m) (start_wires iv m)
unfolding start_wires
start_under iv m =
    all-loaded (λ x. x < 130 + m) (128 + m) (129 + m) (up_from 0 128) (map (bit_of (128 + m) (129 + m)) iv)
    (omega arith) (omega arith) (omega arith)
    (up_under 0 128 (130 + m) (omega arith) (omega arith))
    (bits_every (λ x. x < 130 + m) (128 + m) (129 + m) (omega arith) (omega arith) (omega arith) iv)

pub gates_wired : (iv : List ℕ) (m : ℕ) → GatesWired (128 + m) (kreyvium_gates iv m)
unfolding kreyvium_gates
gates_wired iv m =
    let e : suc (suc (128 + m)) ≡ 130 + m = omega arith in
    tt & tt & (rw e (from_wired 1152 m 128 (130 + m) (start_wires iv m) (start_under iv m) (omega arith)))

pub gates_length : (iv : List ℕ) (m : ℕ) → length (kreyvium_gates iv m) ≡ 16130 + 17 * m
unfolding kreyvium_gates
gates_length iv m = omega (arith, from-length 1152 m 128 (130 + m) (start_wires iv m))

-- m = 1 gives 16,147
pub kreyvium_gates_lem : (iv : List ℕ) (m : ℕ) → length (kreyvium_net iv m).gates ≡ 16130 + 17 * m
unfolding kreyvium_net
kreyvium_gates_lem iv m = gates_length iv m

pub kreyvium_outs : (iv : List ℕ) (m : ℕ) → length (kreyvium_net iv m).outs ≡ m
unfolding kreyvium_net
kreyvium_outs iv m = outs_length 1152 m (130 + m)

pub kreyvium_mults : (iv : List ℕ) (m : ℕ) → mults (kreyvium_net iv m) ≡ 3 * (1152 + m)
unfolding kreyvium_net kreyvium_gates
kreyvium_mults iv m = omega (arith, from-muls 1152 m 128 (130 + m) (start_wires iv m))

pub kreyvium_valid : (iv : List ℕ) (m : ℕ) → Valid (kreyvium_net iv m)
unfolding kreyvium_net
kreyvium_valid iv m = record {
  wired = gates_wired iv m;
  outs = outs_below 1152 m (130 + m) _ (omega (arith, gates_length iv m));
}

-- within the limits of a netlist
pub kreyvium_sound : (iv : List ℕ) (m : ℕ) → m ≤ 64 → Sound (words (kreyvium_net iv m))
unfolding kreyvium_net
kreyvium_sound iv m h =
    valid_sound (kreyvium_net iv m) (kreyvium_valid iv m)
    (record { inputs = omega arith; gates = omega (arith, gates_length iv m); outputs = omega (arith, outs_length 1152 m (130 + m)) })
