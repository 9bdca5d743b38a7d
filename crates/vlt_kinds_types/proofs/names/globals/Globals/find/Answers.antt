use Rattle.std.proofs.Common.{◌∙◌}
use Rattle.vlt_kinds_types.proofs.OfNames.Entries.{looked_up}
use Rattle.vlt_kinds_types.proofs.names.globals.Globals.find.Goals as goal

pub returns : goal.returns
returns c = c.copied.ensures ∙ c.get.ensures.value ∙ looked_up c.args.self.now.names.entries c.args.name.now
