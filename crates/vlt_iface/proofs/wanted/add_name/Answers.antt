use Rattle.vlt_iface.proofs.Tables.{name_added}
use Rattle.vlt_iface.proofs.wanted.add_name.Goals as goal

pub returns : goal.returns
returns c = name_added _ _ c.args.name.now c.in_ok-insert.ensures.updates.0
