use Rattle.records.specs.declared.form.Form.{Form}
use Rattle.daemon.proofs.Numbers.{packed_due, check_small}
use Rattle.daemon.proofs.sallowknot_check_file.Goals as goal

pub returns : goal.returns
returns c = packed_due c.packed.ensures c.check_file.ensures (check_small Form.Full _)
