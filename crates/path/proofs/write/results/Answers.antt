use mathlib.Core.Path.{sym, ap}
use native.Mathlib.Omega.{arith}
use lib.Seq.{length-take-le}
use Rattle.instance.specs.declared.Sizes.{Sizes}
use Rattle.instance.proofs.Judged.{key_small}
use Rattle.path.proofs.Writing.{Call, enciphered, emitted, key_lent, enc_room, net_ready, inputs_room, glued_ready, scored}
use Rattle.path.proofs.write.results.Goals.{Start}
use Rattle.path.proofs.write.results.Goals as goal

-- what the call is lent
abbrev call : Start → Call
call s =
    let a = s.args in
    record {
      inst = a.call.instance;
      m = a.call.m;
      key = a.call.key.now;
      rec = a.call.«record».now;
      idx = a.call.indices.now;
      wh = a.call.whitening.now;
      score = a.call.scoring.now;
      enc = a.enciphered.now;
      net = a.deciphering.now;
      glued = a.glued.now;
      inp = a.inputs.now;
      vals = a.wires.now;
      out = a.scores.now;
    }

pub glue_behind-requires : goal.glue_behind-requires
glue_behind-requires c =
    let s = call (goal.at.glue_behind-requires c).Start in
    let e = enciphered s c.requires c.encipher.ensures in
    let n = emitted s c.requires c.emit_decipher.ensures in
    net_ready s c.requires e n

pub slice_bounds-join_inputs-end : goal.slice_bounds-join_inputs-end
slice_bounds-join_inputs-end c =
    let s = call (goal.at.slice_bounds-join_inputs-end c).Start in
    let e = enciphered s c.requires c.encipher.ensures in
    let n = emitted s c.requires c.emit_decipher.ensures in
    enc_room s c.requires e n

pub slice_bounds-join_inputs-end-2 : goal.slice_bounds-join_inputs-end-2
slice_bounds-join_inputs-end-2 c =
    let s = call (goal.at.slice_bounds-join_inputs-end-2 c).Start in
    let e = enciphered s c.requires c.encipher.ensures in
    let n = emitted s c.requires c.emit_decipher.ensures in
    sym (length-take-le _ _ (enc_room s c.requires e n))

pub join_inputs-requires : goal.join_inputs-requires
join_inputs-requires c =
    let s = call (goal.at.join_inputs-requires c).Start in
    let e = enciphered s c.requires c.encipher.ensures in
    let n = emitted s c.requires c.emit_decipher.ensures in
    let bits = ap Sizes.key c.sizes_of-sizes.ensures in (
      key_lent s c.requires,
      bits,
      omega (
        arith,
        bits,
        inputs_room s c.requires e n,
      ),
    )

pub overflow_add-sizes : goal.overflow_add-sizes
overflow_add-sizes c =
    record { fits = omega (arith, ap Sizes.key c.sizes_of-sizes.ensures, key_small c.args.call.instance) }

pub slice_bounds-evaluate_front-end : goal.slice_bounds-evaluate_front-end
slice_bounds-evaluate_front-end c =
    let s = call (goal.at.slice_bounds-evaluate_front-end c).Start in
    let e = enciphered s c.requires c.encipher.ensures in
    let n = emitted s c.requires c.emit_decipher.ensures in
    let r = glued_ready s c.requires e n c.glue_behind.ensures c.join_inputs.ensures in
    rw (ap Sizes.key c.sizes_of-sizes.ensures) r.1

pub slice_bounds-evaluate_front-end-2 : goal.slice_bounds-evaluate_front-end-2
slice_bounds-evaluate_front-end-2 c =
    let s = call (goal.at.slice_bounds-evaluate_front-end-2 c).Start in
    let e = enciphered s c.requires c.encipher.ensures in
    let n = emitted s c.requires c.emit_decipher.ensures in
    let r = glued_ready s c.requires e n c.glue_behind.ensures c.join_inputs.ensures in
    sym (length-take-le _ _ (rw (ap Sizes.key c.sizes_of-sizes.ensures) r.1))

pub evaluate_front-requires : goal.evaluate_front-requires
evaluate_front-requires c =
    let s = call (goal.at.evaluate_front-requires c).Start in
    let e = enciphered s c.requires c.encipher.ensures in
    let n = emitted s c.requires c.emit_decipher.ensures in
    let r = glued_ready s c.requires e n c.glue_behind.ensures c.join_inputs.ensures in
    rw (ap Sizes.key c.sizes_of-sizes.ensures) (r.0, r.2)

pub returns : goal.returns
returns c =
    let s = call (goal.at.returns c).Start in
    let e = enciphered s c.requires c.encipher.ensures in
    let n = emitted s c.requires c.emit_decipher.ensures in
    let bits = ap Sizes.key c.sizes_of-sizes.ensures in
    scored s c.requires e n c.glue_behind.ensures c.join_inputs.ensures (rw bits at c.evaluate_front.ensures.wires_after) (rw bits at c.evaluate_front.ensures.scores_after)
