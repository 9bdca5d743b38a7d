use Rattle.std.proofs.Common.{◌∙◌}
use Rattle.vlt_kinds_heads.proofs.Tables.{looked_up}
use Rattle.vlt_kinds_heads.proofs.binding.Names.find.Goals as goal

pub returns : goal.returns
returns c = c.copied.ensures ∙ c.get.ensures.value ∙ looked_up c.args.self.now.seen.entries c.args.name.now
