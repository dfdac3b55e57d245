use mathlib.Core.Path.{◌∙◌}
use Rattle.instance.specs.Keys.{key_in}
use Rattle.cipher.proofs.Accepted.{iv-lent, key_lent, rows_lent, whitening_lent, stream_six, rows_of}
use borrow.Author.Rules.{rules}
use Rattle.cipher.proofs.put_stream.Goals as goal

pub put-requires : goal.put-requires
put-requires c =
    let a = c.args in
    let v = iv-lent _ _ a.indices.now a.whitening.now c.requires.0 (search rules) in
    (v.0, key_lent _ a.key.now c.requires.1 (search rules), v.1, v.2)

pub invariant_of-lent : goal.invariant_of-lent
invariant_of-lent c =
    let a = c.args in
    record {
      keyed = c.requires.1;
      below = c.requires.0.below;
      whitened = whitening_lent _ _ a.indices.now a.whitening.now c.requires.0 (search rules);
    }

pub put_all-requires : goal.put_all-requires
put_all-requires c =
    rows_lent _ _ c.args.indices.now c.args.whitening.now c.requires.0 (search rules)

pub returns-then-instance-eq6 : goal.returns-then-instance-eq6
returns-then-instance-eq6 c =
    let a = c.args in
    c.put.ensures ∙ stream_six _ _ a.key.now a.indices.now a.whitening.now (search rules)

pub returns-else-instance-eq6 : goal.returns-else-instance-eq6
returns-else-instance-eq6 c =
    let a = c.args in
    c.put_all.ensures ∙ rows_of _ _ (key_in a.instance a.key.now) a.indices.now a.whitening.now (search rules)
