use Rattle.std.proofs.Common.{◌∙◌, ap}
use Rattle.vlt_kinds_heads.specs.Seen.{table_seen}
use Rattle.vlt_kinds_heads.proofs.Tables.{named_more}
use Rattle.vlt_kinds_heads.proofs.keys.HeadKeys.insert.Goals as goal

pub returns : goal.returns
returns c = ap table_seen c.in_ok-insert.ensures.entries ∙ named_more c.args.self.now.table.entries c.args.key c.args.facts
