use Rattle.port.proofs.Layouts.{all_put}
use Rattle.port.proofs.Port.put_fields.Goals as goal

pub returns : goal.returns
returns c =
    all_put c.args.self _ _ _ _ _ _ c.requires c.put_number.ensures c.put_number-2.ensures c.put_number-3.ensures c.put_number-4.ensures c.put_number-5.ensures
