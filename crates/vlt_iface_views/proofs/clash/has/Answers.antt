use Rattle.std.proofs.Common.{◌∙◌}
use Rattle.vlt_iface.proofs.Tables.{seen_any}
use Rattle.vlt_iface_views.proofs.clash.has.Goals as goal

pub returns : goal.returns
returns c = c.contains.ensures ∙ seen_any c.args.set.now.keys c.args.text.now
