use Rattle.std.proofs.Common.{◌∙◌, ap}
use Rattle.vlt_kinds_types.proofs.OfNames.Entries.{entries_seen}
use Rattle.vlt_kinds_types.proofs.OfNames.Entries.{added}
use Rattle.vlt_kinds_types.proofs.names.globals.Globals.add.Goals as goal

pub returns : goal.returns
returns c =
    ap entries_seen c.in_ok-insert.ensures.entries ∙ added c.args.self.now.names.entries c.args.name c.args.what c.requires
