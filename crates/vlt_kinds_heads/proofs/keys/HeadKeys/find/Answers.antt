use Rattle.std.proofs.Common.{◌∙◌}
use Rattle.vlt_kinds_heads.proofs.Tables.{looked_up}
use Rattle.vlt_kinds_heads.proofs.keys.HeadKeys.find.Goals as goal

pub returns : goal.returns
returns c = c.copied.ensures ∙ c.get.ensures.value ∙ looked_up c.args.self.now.table.entries c.args.key.now
