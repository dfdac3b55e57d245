-- Laws of a list that is written part after part, each part lent from its place on.
use Prim.Native.Nat.{ℕ, ◌+◌, ◌-◌, ◌≤◌}
use mathlib.Core.Path.{◌≡◌, sym, ap, ◌∙◌}
use mathlib.Core.List.{List, ◌++◌, append-nil}
use borrow.Rule.Slice.PartMut.{put_mid, Post-is}
use lib.ListN.{length, take, drop}
use lib.Seq.{drop-length, drop-drop}
use native.Mathlib.Omega.{arith}
use Rattle.answer.specs.Fronts.{over}
use Rattle.answer.proofs.Over.{length_over, over-tail, tail_is}

-- the part of a slice from a place on, lent and written from its start
pub wrote_part : (at : ℕ) (out w : List ℕ) {part : List ℕ} → at ≤ length out → part ≡ over w (take (length out - at) (drop at out))
    → put_mid at (length out - at) out part ≡ take at out ++ over w (drop at out)
wrote_part at out w {part} h p =
    rw (Post-is at (length out) out h, drop-length out, append-nil part) (ap (λ (t : List ℕ). take at out ++ t) (p ∙ ap (over w) (tail_is at out)))

-- a part in the middle, lent and written whole
pub wrote_mid : (at n : ℕ) (out w : List ℕ) → length w ≡ n → put_mid at (at + n - at) out w ≡ take at out ++ over w (drop at out)
unfolding over
wrote_mid at n out w e =
    rw (Post-is at (at + n) out (omega arith))
    (ap (λ (t : List ℕ). take at out ++ (w ++ t)) (sym (drop-drop n at out) ∙ ap (λ (k : ℕ). drop k (drop at out)) (sym e)))

-- a part at the front
pub wrote_front : (n : ℕ) (out w : List ℕ) {part : List ℕ} → length w ≡ n → part ≡ w → part ++ drop n out ≡ over w out
unfolding over
wrote_front n out w e p = rw p (ap (λ (k : ℕ). w ++ drop k out) (sym e))

-- one part more behind a front
pub part_after : (front w old : List ℕ) (n : ℕ) {out out' : List ℕ} → length front ≡ n → out ≡ over front old → out' ≡ take n out ++ over w (drop n out)
    → out' ≡ over (front ++ w) old
part_after front w old n e o p = p ∙ ap (λ (t : List ℕ). take n t ++ over w (drop n t)) o ∙ over-tail front w old n e

-- For code: the part of a slice from n on, when it is lent, and the slice when the part is back.
abbrev pub lent : ℕ → List ℕ → List ℕ
lent n out = take (length out - n) (drop n out)

abbrev pub back : ℕ → List ℕ → List ℕ → List ℕ
back n out part = put_mid n (length out - n) out part

-- it is put behind a front
pub put_after : (front w old : List ℕ) (n : ℕ) {out part : List ℕ} → length front ≡ n → n ≤ length old → out ≡ over front old → part ≡ over w (lent n out)
    → back n out part ≡ over (front ++ w) old
put_after front w old n {out} e l o q =
    let k : length out ≡ length old = ap length o ∙ length_over front old (omega arith) in
    part_after front w old n e o (wrote_part n out w (omega arith) q)
