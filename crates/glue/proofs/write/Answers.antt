use Prim.Native.Nat.{◌-◌}
use mathlib.Core.Path.{◌≡◌, ap, ap₂, ◌∙◌}
use native.Mathlib.Omega.{arith}
use lib.ListN.{length}
use borrow.Rule.Slice.PartMut.{put_mid}
use Rattle.answer.specs.Fronts.{over}
use Rattle.answer.proofs.Over.{length_over, tail_room}
use Rattle.netlist.specs.Words.{header_words, gate_place, inputs_of, gates_of}
use Rattle.glue.specs.Glue.{glued_counts}
use Rattle.glue.proofs.Parts.{first_words, first_words-length, first-written, all-written}
use Rattle.glue.proofs.write.Goals.{After-copy, After-put_header}
use Rattle.glue.proofs.write.Goals as goal

gates : (c : After-put_header) → c.counts_of-counts.result.gates ≡ gates_of c.args.first.now
gates c = ap (λ n. n.gates) c.counts_of-counts.ensures

inputs : (c : After-put_header) → c.counts_of-counts.result.inputs ≡ inputs_of c.args.first.now
inputs c = ap (λ n. n.inputs) c.counts_of-counts.ensures

-- what stands once the first netlist's gates are copied
first_is : (c : After-copy) →
    let a = c.args in
    let head = c.put_header.new.out in
    put_mid header_words (length head - header_words) head c.copy.new.out ≡ over (first_words a.first.now a.second.now) a.out.now
first_is c =
    first-written c.args.first.now c.args.second.now c.args.out.now _ c.counts_of-counts.ensures (omega (arith, c.requires.space)) (c.glued.ensures ∙ ap₂ glued_counts c.counts_of-counts.ensures c.counts_of.ensures) c.put_header.ensures c.copy.ensures

pub glued-requires : goal.glued-requires
glued-requires c =
    (rw c.counts_of-counts.ensures c.requires.first.limits, rw c.counts_of.ensures c.requires.second.limits)

pub slice_bounds-copy-end : goal.slice_bounds-copy-end
slice_bounds-copy-end c =
    omega (arith, gates (goal.at.slice_bounds-copy-end c).After-put_header, c.requires.first.size)

pub copy-requires : goal.copy-requires
copy-requires c =
    omega (arith, gates (goal.at.copy-requires c).After-put_header, c.requires.space, c.put_header.auto.out)

pub slice_bounds-seam-count : goal.slice_bounds-seam-count
slice_bounds-seam-count c =
    omega (arith, gates (goal.at.slice_bounds-seam-count c).After-put_header, c.requires.first.size)

pub slice_bounds-seam-start : goal.slice_bounds-seam-start
slice_bounds-seam-start c =
    omega (arith, gates (goal.at.slice_bounds-seam-start c).After-put_header, c.requires.first.size)

pub overflow_add-seam : goal.overflow_add-seam
overflow_add-seam c =
    omega (arith, gates (goal.at.overflow_add-seam c).After-put_header, inputs (goal.at.overflow_add-seam c).After-put_header, c.requires.first.limits)

pub slice_bounds-put_second-count : goal.slice_bounds-put_second-count
slice_bounds-put_second-count c =
    omega (arith, gates (goal.at.slice_bounds-put_second-count c).After-put_header, c.requires.space, c.put_header.auto.out)

pub slice_bounds-put_second-start : goal.slice_bounds-put_second-start
slice_bounds-put_second-start c =
    omega (arith, gates (goal.at.slice_bounds-put_second-start c).After-put_header, c.requires.space, c.put_header.auto.out)

pub put_second-requires : goal.put_second-requires
put_second-requires c =
    let a = c.args.first.now in
    let b = c.args.second.now in
    let mid = over (first_words a b) c.args.out.now in
    let at = gate_place c.counts_of-counts.result.gates in
    rw (first_is (goal.at.put_second-requires c).After-copy)
    record {
      sound = c.requires.second;
      few = omega (arith, gates (goal.at.put_second-requires c).After-put_header, inputs (goal.at.put_second-requires c).After-put_header, c.requires.first.limits);
      inputs = omega (arith, gates (goal.at.put_second-requires c).After-put_header, tail_room at a, c.requires.first.size, c.requires.first.limits);
      space = omega (arith, gates (goal.at.put_second-requires c).After-put_header, tail_room at mid, length_over (first_words a b) c.args.out.now (omega (arith, first_words-length a b c.requires.first, c.requires.space)), c.requires.space);
    }

pub returns : goal.returns
returns c =
    all-written c.args.first.now c.args.second.now c.args.out.now _ c.counts_of-counts.ensures c.requires (first_is (goal.at.returns c).After-copy) c.put_second.ensures
