use Rattle.std.proofs.Common.{◌∙◌}
use Rattle.vlt_iface.proofs.Tables.{seen_any, name_taken}
use Rattle.vlt_iface.proofs.wanted.take_name.Goals as goal

pub returns-clause-was : goal.returns-clause-was
returns-clause-was c = c.swap_remove.ensures.found ∙ seen_any c.args.names.now.keys c.args.name.now

pub returns-clause-left : goal.returns-clause-left
returns-clause-left c = name_taken _ _ c.args.name.now c.swap_remove.ensures.updates.0
