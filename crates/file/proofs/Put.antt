-- Laws for the code that writes a file, or the words that it read.
use Prim.Native.Nat.{ℕ, zero, suc, ◌+◌, ◌-◌, ◌*◌, ◌/◌, ◌%◌, ◌<◌, ◌≤◌}
use mathlib.Core.Path.{◌≡◌, refl, sym, ◌∙◌, ap, ap₂}
use mathlib.Core.List.{List, [], ◌∷◌, ◌++◌, append_assoc}
use native.Mathlib.Omega.{arith}
use native.Mathlib.Numerals.{add-one}
use native.Mathlib.Nat.{add-zero, zero-add}
use lib.ListN.{length, get_or, set, take, drop, length-append, length-drop}
use Rattle.std.proofs.lemmas.List.{get_or-take, get_or-drop}
use lib.Seq.{sets, sets-eq, drop-drop, length-take-le}
use borrow.Rule.Slice.PartMut.{put_mid}
use Rattle.std.specs.Int.{w32, to_le_bytes}
use Rattle.std.specs.Prelude.{Ok}
use Rattle.answer.specs.Answers.{Answer}
use Rattle.answer.specs.Fronts.{over}
use Rattle.answer.proofs.Over.{over-front}
use Rattle.netlist.specs.declared.counts.Counts.{Counts}
use Rattle.netlist.specs.declared.gate.Gate.{Gate}
use Rattle.netlist.specs.declared.gate.Gate.TheVariants.{Zero, One, Not, Xor, And, Mux}
use Rattle.netlist.specs.Gates.{gate_words}
use Rattle.netlist.specs.Words.{header_words, gate_place, header, counts_of, gates_of, word_count, gate_at}
use Rattle.netlist.proofs.Puts.{sets-append}
use Rattle.netlist.specs.Sound.{Sound}
use Rattle.records.specs.declared.form.Form.{Form}
use Rattle.records.specs.declared.Quad.{Quad}
use Rattle.records.specs.Bytes.{word_at, joined}
use Rattle.records.specs.File.{byte_n, byte_g, byte_o, mark_of, width_of, head_size, out_size, counts_in, start_of, four_in, out_word, words_in, read_answer}
use Rattle.records.specs.Whole.{quad_in}
use Rattle.records.specs.Inner.{Framed}
use Rattle.records.proofs.Joined.{joined_length}
use Rattle.records.proofs.Judged.{check_framed, read_done}
use Rattle.records.proofs.Found.{fours_length, words-length}
use Rattle.file.specs.Bytes.{little}
use Rattle.file.specs.File.{words_bytes, head_bytes, gate_bytes, out_bytes, file_of}
use Rattle.file.specs.Inner.{Room}
use Rattle.file.proofs.Joined.{little-length}
use Rattle.file.proofs.Written.{words_bytes-length, gate_length, out_length, file_length}

-- ---- stores that follow one another

-- a part of a list that was written
pub put_part : {X : Type 0} (l vs : List X) (at k : ℕ) → at + k ≤ length l → length vs ≡ k → put_mid at k l vs ≡ sets l at vs
put_part l vs at k h e =
    sym (sets-eq vs l at (omega arith) ∙ rw e (append_assoc (take at l) vs (drop (at + k) l) ∙ ap (λ t. take at l ++ (vs ++ t)) (sym (drop-drop k at l))))

sets-at : (a l b : List ℕ) (i k : ℕ) → k ≡ i + length a → sets (sets l i a) k b ≡ sets l i (a ++ b)
sets-at a l b i k e = rw e (sym (sets-append a l b i))

pub joined_none : (f : ℕ → List ℕ) (l : List ℕ) (at : ℕ) → l ≡ sets l at (joined 0 f)
unfolding joined
joined_none f l at = refl

pub joined_empty : (f : ℕ → List ℕ) (b : ℕ) → b ≡ b + length (joined 0 f)
unfolding joined
joined_empty f b = omega arith

pub joined_next : (f : ℕ → List ℕ) (j : ℕ) → length (joined (j + 1) f) ≡ length (joined j f) + length (f j)
unfolding joined
joined_next f j = rw (add-one j) (length-append (joined j f) (f j))

-- one more record
pub put_next : (f : ℕ → List ℕ) (l : List ℕ) (at j : ℕ) {m n : List ℕ} {p : ℕ} → m ≡ sets l at (joined j f) → p ≡ at + length (joined j f)
    → n ≡ sets m p (f j) → n ≡ sets l at (joined (j + 1) f)
unfolding joined
put_next f l at j {m} {n} {p} e k h = rw (add-one j, h, e) (sets-at (joined j f) l (f j) at p k)

-- ---- bytes

pub words_none : (net l : List ℕ) (p at : ℕ) → l ≡ sets l at (words_bytes net p 0)
unfolding words_bytes joined
words_none net l p at = refl

-- the library's bytes of a word are its four
word_bytes : (x : ℕ) → to_le_bytes w32 x ≡ little x
unfolding little
word_bytes x =
    let a : x / 65536 % 256 ≡ x / 256 / 256 % 256 = omega arith in
    let b : x / 16777216 % 256 ≡ x / 256 / 256 / 256 % 256 = omega arith in
    rw (a, b)

pub words_next : (net l : List ℕ) (p at j : ℕ) {m n b : List ℕ} → m ≡ sets l at (words_bytes net p j) → b ≡ to_le_bytes w32 (get_or net (p + j) 0)
    → n ≡ sets m (at + 4 * j) b → n ≡ sets l at (words_bytes net p (j + 1))
unfolding words_bytes
words_next net l p at j e d h =
    put_next (λ j. little (get_or net (p + j) 0)) l at j e
    (ap (λ k. at + k) (sym (joined_length j 4 (λ j. little (get_or net (p + j) 0)) (λ i. little-length (get_or net (p + i) 0)))))
    (rw (d ∙ word_bytes (get_or net (p + j) 0)) at h)

joined_same : (n : ℕ) (f g : ℕ → List ℕ) → ((j : ℕ) → j < n → f j ≡ g j) → joined n f ≡ joined n g
unfolding joined
joined_same zero f g h = refl
joined_same (suc n) f g h = ap₂ ◌++◌ (joined_same n f g (λ j l. h j (omega arith))) (h n (omega arith))

-- the words of a part of the netlist
pub words_part : (net : List ℕ) (p n e : ℕ) → e ≡ p + n → e ≤ length net → words_bytes (take (e - p) (drop p net)) 0 (length (take (e - p) (drop p net))) ≡ words_bytes net p n
unfolding words_bytes
words_part net p n e h l =
    let k : e - p ≡ n = omega arith in
    let m : length (take n (drop p net)) ≡ n = length-take-le n (drop p net) (omega (arith, length-drop p net)) in
    rw (k, m)
    (joined_same n _ _ (λ j i. ap little (get_or-take n (drop p net) (0 + j) 0 (omega arith) ∙ get_or-drop p net (0 + j) 0 ∙ ap (λ q. get_or net (p + q) 0) (zero-add j))))

-- one word
pub word_put : (net : List ℕ) (p : ℕ) {b : List ℕ} → b ≡ to_le_bytes w32 (get_or net p 0) → b ≡ words_bytes net p 1
unfolding words_bytes joined
word_put net p e = rw add-zero (e ∙ word_bytes (get_or net p 0))

pub gate_put : (form : Form) (net l : List ℕ) (at g : ℕ) {m1 m2 v : List ℕ} {k w : ℕ} → m1 ≡ sets l at (byte_n ∷ byte_g ∷ k ∷ [])
    → m2 ≡ sets m1 (at + 3) v → v ≡ words_bytes net (gate_place g + 1) w → k ≡ get_or net (gate_place g) 0 → w ≡ width_of form k → m2 ≡ sets l at (gate_bytes form net g)
unfolding gate_bytes
gate_put form net l at g {m1} {m2} {v} {k} {w} a c b d e =
    rw (← d, ← e, c, a, b) (sets-at (byte_n ∷ byte_g ∷ k ∷ []) l (words_bytes net (gate_place g + 1) w) at (at + 3) refl)

pub gate_size : (form : Form) (net : List ℕ) (g : ℕ) {k w : ℕ} → k ≡ get_or net (gate_place g) 0 → w ≡ width_of form k → 3 + 4 * w ≡ length (gate_bytes form net g)
gate_size form net g d e = rw (gate_length form net g, ← d, ← e)

pub out_put : (net l : List ℕ) (p o G : ℕ) {m1 m2 v : List ℕ} → m1 ≡ sets l p (byte_n ∷ byte_o ∷ []) → m2 ≡ sets m1 (p + 2) v → v ≡ words_bytes net (gate_place G + o) 1
    → G ≡ gates_of net → m2 ≡ sets l p (out_bytes net o)
unfolding out_bytes
out_put net l p o G a b d e = rw (← e, b, a, d) (sets-at (byte_n ∷ byte_o ∷ []) l (words_bytes net (gate_place G + o) 1) p (p + 2) refl)

pub outs_next : (net l : List ℕ) (from o : ℕ) {m n : List ℕ} → m ≡ sets l from (joined o (out_bytes net)) → n ≡ sets m (from + out_size * o) (out_bytes net o)
    → n ≡ sets l from (joined (o + 1) (out_bytes net))
outs_next net l from o e h =
    put_next (out_bytes net) l from o e (ap (λ k. from + k) (sym (joined_length o out_size (out_bytes net) (out_length net)))) h

pub file_put : (form : Form) (net l : List ℕ) (c : Counts) {m1 m2 m3 m4 v : List ℕ} {letter at : ℕ} → length (file_of form net) ≤ length l → letter ≡ mark_of form
    → c ≡ counts_of net → m1 ≡ sets l 0 (byte_n ∷ letter ∷ []) → m2 ≡ sets m1 2 v → v ≡ words_bytes net 0 header_words
    → m3 ≡ sets m2 head_size (joined c.gates (gate_bytes form net)) → at ≡ head_size + length (joined c.gates (gate_bytes form net))
    → m4 ≡ sets m3 at (joined c.outputs (out_bytes net)) → m4 ≡ over (file_of form net) l
unfolding file_of head_bytes
file_put form net l n {m1} {m2} {m3} {m4} {v} {letter} {at} h k g a b f c e d =
    let counts = words_bytes net 0 header_words in
    let hd : List ℕ = byte_n ∷ letter ∷ counts in
    let gs = joined n.gates (gate_bytes form net) in
    let os = joined n.outputs (out_bytes net) in
    let lh : length hd ≡ head_size = ap (λ n. suc (suc n)) (words_bytes-length net 0 header_words) in
    let e1 : m2 ≡ sets l 0 hd = b ∙ ap (λ x. sets m1 2 x) f ∙ ap (λ x. sets x 2 counts) a ∙ sets-at (byte_n ∷ letter ∷ []) l counts 0 2 refl in
    let e2 : m3 ≡ sets l 0 (hd ++ gs) = c ∙ ap (λ x. sets x head_size gs) e1 ∙ sets-at hd l gs 0 head_size (omega arith) in
    let e3 : m4 ≡ sets l 0 (hd ++ gs ++ os) = d ∙ ap (λ x. sets x at os) e2 ∙ sets-at (hd ++ gs) l os 0 at (omega (arith, length-append hd gs)) in
    let e4 : hd ++ gs ++ os ≡ file_of form net = rw (k, g) in
    e3 ∙ ap (λ x. sets l 0 x) e4 ∙ over-front (file_of form net) l h

-- a gate's kind is a byte
kind_small : (g : Gate) (k a b c : ℕ) → gate_words g ≡ k ∷ a ∷ b ∷ c ∷ [] → k < 256
kind_small Zero k a b c e = let h : k ≡ 0 = cc in omega arith
kind_small One k a b c e = let h : k ≡ 1 = cc in omega arith
kind_small (Not x) k a b c e = let h : k ≡ 2 = cc in omega arith
kind_small (Xor x y) k a b c e = let h : k ≡ 3 = cc in omega arith
kind_small (And x y) k a b c e = let h : k ≡ 4 = cc in omega arith
kind_small (Mux x y z) k a b c e = let h : k ≡ 5 = cc in omega arith

pub room_for : (form : Form) (net : List ℕ) (room : ℕ) → Sound net → length (file_of form net) ≤ room → Room form net (gates_of net) room
room_for form net room s h =
    record {
      few = s.limits.gates;
      long = omega (arith, s.size);
      kinds = λ g l. kind_small (gate_at net (gate_place g)) _ _ _ _ (s.whole g l);
      space = omega (arith, file_length form net);
    }

-- ---- words

-- what is known of a file that is read
pub read_framed : (form : Form) (s : List ℕ) (n : ℕ) {r : Answer} → r ≡ read_answer form s n → r ≡ Ok tt → Framed form s
read_framed form s n e d = check_framed form s (read_done form s n (sym e ∙ d)).0

pub read_room : (form : Form) (s : List ℕ) (n : ℕ) {r : Answer} → r ≡ read_answer form s n → r ≡ Ok tt → word_count (counts_in s) ≤ n
read_room form s n e d = (read_done form s n (sym e ∙ d)).1

pub quad_put : (form : Form) (s l : List ℕ) (g : ℕ) {m n : List ℕ} {at : ℕ} {q : Quad} → q ≡ quad_in form s at → at ≡ start_of form s g
    → m ≡ sets l header_words (joined g (four_in form s)) → n ≡ sets m (gate_place g) (q.kind ∷ q.a ∷ q.b ∷ q.c ∷ [])
    → n ≡ sets l header_words (joined (g + 1) (four_in form s))
unfolding four_in quad_in
quad_put form s l g {m} {n} {at} {q} d e a b =
    put_next (four_in form s) l header_words g a (ap (λ k. header_words + k) (sym (fours_length form s g))) (rw (← e) (rw d at b))

pub outs_put : (s l : List ℕ) (from base o : ℕ) {m n : List ℕ} {x : ℕ} → x ≡ word_at s (from + out_size * o + 2) → m ≡ sets l base (joined o (out_word s from))
    → n ≡ set m (base + o) x → n ≡ sets l base (joined (o + 1) (out_word s from))
unfolding out_word
outs_put s l from base o e a b =
    let z : o ≡ 1 * o = omega arith in
    put_next (out_word s from) l base o a (ap (λ k. base + k) (z ∙ sym (joined_length o 1 (out_word s from) (λ i. refl)))) (rw (← e) b)

pub words_put : (form : Form) (s l : List ℕ) (c : Counts) {m1 m2 m3 : List ℕ} {from : ℕ} → word_count (counts_in s) ≤ length l → c ≡ counts_in s
    → m1 ≡ sets l 0 (header c) → m2 ≡ sets m1 header_words (joined c.gates (four_in form s)) → from ≡ start_of form s c.gates
    → m3 ≡ sets m2 (gate_place c.gates) (joined c.outputs (out_word s from)) → m3 ≡ over (words_in form s) l
unfolding words_in
words_put form s l c {m1} {m2} {m3} {from} h g a b e d =
    let at = gate_place c.gates in
    let gs = joined c.gates (four_in form s) in
    let os = joined c.outputs (out_word s from) in
    let e1 : m2 ≡ sets l 0 (header c ++ gs) = b ∙ ap (λ x. sets x header_words gs) a ∙ sets-at (header c) l gs 0 header_words refl in
    let e2 : m3 ≡ sets l 0 (header c ++ gs ++ os) =
    d ∙ ap (λ x. sets x at os) e1 ∙ sets-at (header c ++ gs) l os 0 at (omega (arith, length-append (header c) gs, fours_length form s c.gates)) in
    let e3 : header c ++ gs ++ os ≡ words_in form s = rw (e, g) in
    e2 ∙ ap (λ x. sets l 0 x) e3 ∙ over-front (words_in form s) l (omega (arith, words-length form s))
