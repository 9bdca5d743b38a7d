use Rattle.vlt_iface.proofs.Tables.{inserted}
use Rattle.vlt_iface.proofs.given.put_entry.Goals as goal

pub returns : goal.returns
returns c = inserted _ _ c.args.name c.args.decl c.in_ok-insert.ensures.updates.0
