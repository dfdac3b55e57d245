use mathlib.Core.Path.{refl}
use mathlib.Core.List.{[]}
use native.Mathlib.Omega.{arith}
use lib.ListN.{length-take, length-drop}
use Rattle.emit.proofs.RowsSum.{Fitting, fitting, as_long, summing_first, summing_start, summing_turn, summing_end}
use Rattle.emit.proofs.rows.put_monomials.Goals.{In-loop-j}
use Rattle.emit.proofs.rows.put_monomials.Goals as goal

fitting_at : (l : In-loop-j) → let a = l.args in Fitting a.degrees.now a.xs.now l.loop-j.used l.loop-j.j
fitting_at l = fitting _ _ _ _ _ _ _ _ _ _ _ l.loop-j.invariant l.loop-j-test.true

pub slice_bounds-put_chain-end : goal.slice_bounds-put_chain-end
slice_bounds-put_chain-end c =
    let p = c.requires in
    let f = summing_first [] 0 0 c.args.degrees.now c.args.xs.now p.in_bounds.0 p.in_bounds.1 in
    omega (arith, length-take c.from-first.result c.args.xs.now)

pub put_chain-acc-requires : goal.put_chain-acc-requires
put_chain-acc-requires c =
    let p = c.requires in
    let f = summing_first [] 0 0 c.args.degrees.now c.args.xs.now p.in_bounds.0 p.in_bounds.1 in
    let l = length-take c.from-first.result c.args.xs.now in (omega arith, omega arith, omega arith)

pub loop-j-init : goal.loop-j-init
loop-j-init c =
    let p = c.requires in
    let g = summing_start _ _ _ _ _ _ _ _ _ p.in_bounds.0 p.in_bounds.1 c.from-first.ensures refl c.put_chain-acc.ensures in
    ((_, g), λ o x. x)

pub slice_bounds-put_term-end : goal.slice_bounds-put_term-end
slice_bounds-put_term-end c = let f = fitting_at (goal.at.slice_bounds-put_term-end c).In-loop-j in omega arith

pub put_term-acc-requires : goal.put_term-acc-requires
put_term-acc-requires c =
    let f = fitting_at (goal.at.put_term-acc-requires c).In-loop-j in
    let o = as_long _ _ _ _ _ _ _ _ _ _ _ c.loop-j.invariant in
    (simp (length-take, length-drop) (omega arith), simp (length-take, length-drop) (omega arith), simp (length-take, length-drop) (omega arith))

pub loop-j-preserved : goal.loop-j-preserved
loop-j-preserved c =
    let v = c.loop-j.invariant in
    (v.0, λ o x. summing_turn o _ _ _ _ _ _ _ _ (v.1 o x) _ _ _ c.loop-j-test.true c.from.ensures (rw (c.past.ensures.at_is, c.past.ensures.wire_is) at c.put_term-acc.ensures))

pub returns : goal.returns
returns c =
    let p = c.requires in
    let g = summing_start _ _ _ _ _ _ _ _ _ p.in_bounds.0 p.in_bounds.1 c.from-first.ensures refl c.put_chain-acc.ensures in
    summing_end _ _ _ _ _ _ _ _ _ (c.loop-j.invariant.1 _ g) c.loop-j-test.false
