-- Laws of the parts of a glued netlist.
use Prim.Native.Nat.{ℕ, ◌+◌, ◌-◌, ◌*◌, ◌<◌, ◌≤◌}
use mathlib.Core.Path.{◌≡◌, refl, sym, ap, ◌∙◌}
use mathlib.Core.List.{List, [], ◌∷◌, ◌++◌, map, append-nil, append_assoc}
use native.Mathlib.Omega.{arith}
use borrow.Rule.Slice.PartMut.{put_mid, Post-is}
use lib.Dec.{ltb}
use lib.ListN.{length, get_or, take, drop, length-map, length-drop, length-take}
use lib.Seq.{sets, drop-length, get_or-drop, take_at}
use Rattle.answer.specs.Choose.{choose}
use Rattle.answer.specs.Fronts.{over}
use Rattle.answer.proofs.Over.{length_over, over-front, over-sets, over-tail, tail_is}
use Rattle.netlist.specs.declared.counts.Counts.{Counts}
use Rattle.netlist.specs.declared.gate.Gate.{Gate}
use Rattle.netlist.specs.declared.gate.Gate.TheVariants.{Zero, One, Not, Xor, And, Mux}
use Rattle.netlist.specs.Gates.{uses_of, gate_words}
use Rattle.netlist.specs.Net.{wires_of}
use Rattle.netlist.specs.Words.{header_words, gate_stride, gate_place, header, counts_of, inputs_of, gates_of, outputs_of, gates_words, gate_at, gates_at, net_of, words}
use Rattle.netlist.specs.Glue.{ren, thru, wire_of, glue}
use Rattle.netlist.specs.Sound.{Sound}
use Rattle.netlist.proofs.Gates.{gate_words-length, operands_low}
use Rattle.netlist.proofs.Glued.{map-append, glue_gates, glue_outputs}
use Rattle.netlist.proofs.Words.{gates_length, gates_snoc, gates_words-length, gates_words-append, gates_words_snoc, outs_length, words-net_of}
use Rattle.glue.specs.Glue.{glued_counts, glued_words, Fit}
use Rattle.glue.specs.Inner.{SmallAll, second_words, Second}

-- The part of a slice from a on, when it is lent and when it is back.
pub put_tail : (a : ℕ) (xs ys : List ℕ) → a ≤ length xs → put_mid a (length xs - a) xs ys ≡ take a xs ++ ys
put_tail a xs ys h = rw (Post-is a (length xs) xs h, drop-length xs, append-nil ys)

-- a part that was lent behind a front, and written from its start
wrote_tail : (front w old : List ℕ) (n : ℕ) {out part : List ℕ} → length front ≡ n → n ≤ length old → out ≡ over front old → length out ≡ length old
    → part ≡ over w (take (length out - n) (drop n out)) → put_mid n (length out - n) out part ≡ over (front ++ w) old
wrote_tail front w old n {out} {part} e h o k p =
    put_tail n out part (omega arith)
    ∙ ap (λ (t : List ℕ). take n out ++ t) (p ∙ ap (over w) (tail_is n out))
    ∙ ap (λ (t : List ℕ). take n t ++ over w (drop n t)) o
    ∙ over-tail front w old n e

-- a front keeps the list's length
pub kept_length : (front old : List ℕ) {out : List ℕ} → out ≡ over front old → length front ≤ length old → length out ≡ length old
kept_length front old e h = ap length e ∙ length_over front old h

-- a gate's words renamed: those of the operands that it uses
pub renamed_words : (f : ℕ → ℕ) (g : Gate) (k a b c : ℕ) → gate_words g ≡ k ∷ a ∷ b ∷ c ∷ []
    → gate_words (ren f g) ≡ k ∷ choose (ltb 0 (uses_of g)) (f a) 0 ∷ choose (ltb 1 (uses_of g)) (f b) 0 ∷ choose (ltb 2 (uses_of g)) (f c) 0 ∷ []
renamed_words f Zero k a b c e = let h : k ≡ 0 = cc in rw h
renamed_words f One k a b c e = let h : k ≡ 1 = cc in rw h
renamed_words f (Not x) k a b c e = let h : k ≡ 2 = cc in let p : a ≡ x = cc in rw (h, p)
renamed_words f (Xor x y) k a b c e = let h : k ≡ 3 = cc in let p : a ≡ x = cc in let q : b ≡ y = cc in rw (h, p, q)
renamed_words f (And x y) k a b c e = let h : k ≡ 4 = cc in let p : a ≡ x = cc in let q : b ≡ y = cc in rw (h, p, q)
renamed_words f (Mux x y z) k a b c e = let h : k ≡ 5 = cc in let p : a ≡ x = cc in let q : b ≡ y = cc in let r : c ≡ z = cc in rw (h, p, q, r)

-- The gates of the second netlist.
module _ (b outs : List ℕ) (base : ℕ) (old : List ℕ) where
  abbrev pub written : ℕ → List ℕ
  written g = gates_words (map (ren (thru outs base)) (gates_at b header_words g))

  pub written-length : (g : ℕ) → length (written g) ≡ gate_stride * g
  written-length g =
      omega (arith, gates_words-length (map (ren (thru outs base)) (gates_at b header_words g)), length-map (gates_at b header_words g) (ren (thru outs base)), gates_length b header_words g)

  pub written-more : (g : ℕ) → gate_stride * g + gate_stride ≤ length old
      → sets (over (written g) old) (gate_stride * g) (gate_words (ren (thru outs base) (gate_at b (gate_place g)))) ≡ over (written (g + 1)) old
  written-more g h =
      let f = ren (thru outs base) in
      let d = f (gate_at b (gate_place g)) in
      over-sets (written g) (gate_words d) old (gate_stride * g) (written-length g) (omega (arith, gate_words-length d))
      ∙ ap (λ (t : List ℕ). over t old)
      (sym (gates_words_snoc (map f (gates_at b header_words g)) d)
      ∙ ap gates_words (sym (map-append f (gates_at b header_words g) _) ∙ ap (map f) (sym (gates_snoc b header_words g))))

  -- one more gate, by its words
  pub words_more : (room g : ℕ) {out : List ℕ} {x y z : ℕ} → Second b outs base room → g < gates_of b → gate_stride * g + gate_stride ≤ length old → out ≡ over (written g) old
      → x ≡ choose (ltb 0 (uses_of (gate_at b (gate_place g)))) (thru outs base (get_or b (gate_place g + 1) 0)) 0
      → y ≡ choose (ltb 1 (uses_of (gate_at b (gate_place g)))) (thru outs base (get_or b (gate_place g + 2) 0)) 0
      → z ≡ choose (ltb 2 (uses_of (gate_at b (gate_place g)))) (thru outs base (get_or b (gate_place g + 3) 0)) 0
      → sets out (gate_stride * g) (get_or b (gate_place g) 0 ∷ x ∷ y ∷ z ∷ []) ≡ over (written (g + 1)) old
  words_more room g {out} {x} {y} {z} s h r o ex ey ez =
      let w : get_or b (gate_place g) 0 ∷ x ∷ y ∷ z ∷ [] ≡ gate_words (ren (thru outs base) (gate_at b (gate_place g))) =
      rw (ex, ey, ez) (sym (renamed_words (thru outs base) (gate_at b (gate_place g)) _ _ _ _ (s.sound.whole g h))) in
      ap (sets out (gate_stride * g)) w ∙ ap (λ (t : List ℕ). sets t (gate_stride * g) (gate_words (ren (thru outs base) (gate_at b (gate_place g))))) o ∙ written-more g r

-- behind few wires the operand words of a sound gate stay words
pub small_gate : (b outs : List ℕ) (base room g : ℕ) → Second b outs base room → g < gates_of b
    → (base + get_or b (gate_place g + 1) 0 < 4294967296) × (base + get_or b (gate_place g + 2) 0 < 4294967296) × (base + get_or b (gate_place g + 3) 0 < 4294967296)
small_gate b outs base room g s h =
    omega (arith, operands_low _ _ _ _ _ (s.sound.uses g h) (s.sound.whole g h), s.few, s.sound.limits)

pub small_outs : (b outs : List ℕ) (base room : ℕ) → Second b outs base room → SmallAll base (drop (gate_place (gates_of b)) b)
small_outs b outs base room s i h =
    let k : i < outputs_of b = omega (arith, outs_length b s.sound) in
    omega (arith, get_or-drop (gate_place (gates_of b)) b i 0, s.sound.output i k, s.few, s.sound.limits)

-- the gates, then the outputs in the part after them, by the second netlist's counts n
second_is : (b outs : List ℕ) (base : ℕ) (old : List ℕ) {out part : List ℕ} → gate_stride * gates_of b ≤ length old → out ≡ over (written b outs base old (gates_of b)) old
    → part ≡ over (map (thru outs base) (take (length b - gate_place (gates_of b)) (drop (gate_place (gates_of b)) b))) (take (length out - gate_stride * gates_of b) (drop (gate_stride * gates_of b) out))
    → put_mid (gate_stride * gates_of b) (length out - gate_stride * gates_of b) out part ≡ over (second_words b outs base) old
unfolding second_words
second_is b outs base old {out} h o p =
    let len : length (written b outs base old (gates_of b)) ≡ gate_stride * gates_of b = written-length b outs base old (gates_of b) in
    wrote_tail (written b outs base old (gates_of b)) (map (thru outs base) (drop (gate_place (gates_of b)) b)) old (gate_stride * gates_of b) len h o
    (kept_length _ old o (omega arith))
    (p ∙ ap (λ (t : List ℕ). over (map (thru outs base) t) (take (length out - gate_stride * gates_of b) (drop (gate_stride * gates_of b) out))) (tail_is (gate_place (gates_of b)) b))

pub second_written : (b outs : List ℕ) (base : ℕ) (old : List ℕ) (n : Counts) {out part : List ℕ} → n ≡ counts_of b → gate_stride * gates_of b ≤ length old
    → out ≡ over (written b outs base old n.gates) old
    → part ≡ over (map (thru outs base) (take (length b - gate_place n.gates) (drop (gate_place n.gates) b))) (take (length out - gate_stride * n.gates) (drop (gate_stride * n.gates) out))
    → put_mid (gate_stride * n.gates) (length out - gate_stride * n.gates) out part ≡ over (second_words b outs base) old
second_written b outs base old n k h o p = rw k (second_is b outs base old h (rw k at o) (rw k at p))

-- The whole: the header, the first netlist's gates, and what the second's writer writes.
gate_part : (a : List ℕ) → Sound a → take (gate_stride * gates_of a) (drop header_words a) ≡ gates_words (net_of a).gates
gate_part a s =
    let w : words (net_of a) ≡ a = words-net_of a s in
    let len : length (gates_words (net_of a).gates) ≡ gate_stride * gates_of a = omega (arith, gates_words-length (net_of a).gates, gates_length a header_words (gates_of a)) in
    ap (λ (t : List ℕ). take (gate_stride * gates_of a) (drop header_words t)) (sym w) ∙ take_at (gates_words (net_of a).gates) (net_of a).outs (gate_stride * gates_of a) len

second_part : (a b : List ℕ)
    → second_words b (net_of a).outs (inputs_of a + gates_of a) ≡ gates_words (map (ren (wire_of (net_of a))) (net_of b).gates) ++ (glue (net_of a) (net_of b)).outs
unfolding second_words
second_part a b =
    let base : inputs_of a + gates_of a ≡ wires_of (net_of a) = omega (arith, gates_length a header_words (gates_of a)) in
    ap (second_words b (net_of a).outs) base

-- the header, and the first netlist's gates in the part after it
abbrev glued_header : List ℕ → List ℕ → List ℕ
glued_header a b = header (glued_counts (counts_of a) (counts_of b))

abbrev pub first_words : List ℕ → List ℕ → List ℕ
first_words a b = glued_header a b ++ take (gate_stride * gates_of a) (drop header_words a)

pub first_words-length : (a b : List ℕ) → Sound a → length (first_words a b) ≡ gate_place (gates_of a)
first_words-length a b s = omega (arith, length-take (gate_stride * gates_of a) (drop header_words a), length-drop header_words a, s.size)

glued_whole : (a b : List ℕ) (room : ℕ) → Fit a b room → first_words a b ++ second_words b (net_of a).outs (inputs_of a + gates_of a) ≡ glued_words a b
glued_whole a b room f =
    let A = net_of a in
    let B = net_of b in
    let g : length (glue A B).gates ≡ gates_of a + gates_of b =
    omega (arith, glue_gates A B, gates_length a header_words (gates_of a), gates_length b header_words (gates_of b)) in
    let o : length (glue A B).outs ≡ outputs_of b = glue_outputs A B ∙ outs_length b f.second in
    rw (g, o, gates_words-append A.gates, gate_part a f.first, second_part a b, append_assoc (gates_words A.gates))

-- the header stored in front
-- by the first netlist's counts n
pub first-written : (a b old : List ℕ) (n : Counts) {c : Counts} {head part : List ℕ} → n ≡ counts_of a → header_words ≤ length old → c ≡ glued_counts (counts_of a) (counts_of b) → head ≡ sets old 0 (header c)
    → part ≡ over (take (gate_place n.gates - header_words) (drop header_words a)) (take (length head - header_words) (drop header_words head))
    → put_mid header_words (length head - header_words) head part ≡ over (first_words a b) old
first-written a b old n {c} {head} f h k o p =
    let e : gate_place n.gates - header_words ≡ gate_stride * gates_of a = omega (arith, ap (λ (m : Counts). m.gates) f) in
    let w : head ≡ over (glued_header a b) old = o ∙ over-front (header c) old h ∙ ap (λ (n : Counts). over (header n) old) k in
    wrote_tail (glued_header a b) (take (gate_stride * gates_of a) (drop header_words a)) old header_words refl h w
    (kept_length _ old w h)
    (rw e at p)

-- and all of it
all_is : (a b old : List ℕ) {mid part : List ℕ} → Fit a b (length old) → mid ≡ over (first_words a b) old
    → part ≡ over (second_words b (take (length a - gate_place (gates_of a)) (drop (gate_place (gates_of a)) a)) (inputs_of a + gates_of a)) (take (length mid - gate_place (gates_of a)) (drop (gate_place (gates_of a)) mid))
    → put_mid (gate_place (gates_of a)) (length mid - gate_place (gates_of a)) mid part ≡ over (glued_words a b) old
all_is a b old {mid} f o p =
    let len : length (first_words a b) ≡ gate_place (gates_of a) = first_words-length a b f.first in
    wrote_tail (first_words a b) (second_words b (net_of a).outs (inputs_of a + gates_of a)) old (gate_place (gates_of a)) len (omega (arith, f.space)) o
    (kept_length _ old o (omega (arith, f.space)))
    (p ∙ ap (λ (t : List ℕ). over (second_words b t (inputs_of a + gates_of a)) (take (length mid - gate_place (gates_of a)) (drop (gate_place (gates_of a)) mid))) (tail_is (gate_place (gates_of a)) a))
    ∙ ap (λ (t : List ℕ). over t old) (glued_whole a b (length old) f)

pub all-written : (a b old : List ℕ) (n : Counts) {mid part : List ℕ} → n ≡ counts_of a → Fit a b (length old) → mid ≡ over (first_words a b) old
    → part ≡ over (second_words b (take (length a - gate_place n.gates) (drop (gate_place n.gates) a)) (n.inputs + n.gates)) (take (length mid - gate_place n.gates) (drop (gate_place n.gates) mid))
    → put_mid (gate_place n.gates) (length mid - gate_place n.gates) mid part ≡ over (glued_words a b) old
all-written a b old n k f o p = rw k (all_is a b old f o (rw k at p))
