use Rattle.std.proofs.Common.{◌∙◌, ap}
use Rattle.std.specs.Str.{bytes_eq}
use Rattle.indexmap.specs.IndexMap.{insert_entry}
use Rattle.vlt_kinds_heads.specs.Seen.{table_seen}
use Rattle.vlt_kinds_heads.proofs.Tables.{named_more}
use Rattle.vlt_kinds_heads.proofs.binding.Names.add.Goals as goal

pub returns : goal.returns
returns c =
    ap table_seen c.in_ok-insert.ensures.entries ∙ named_more c.args.self.now.seen.entries c.args.name.now.text c.only_keys-only_keys.result
    ∙ ap (insert_entry bytes_eq (table_seen c.args.self.now.seen.entries) c.args.name.now.text.now) c.only_keys-only_keys.ensures
