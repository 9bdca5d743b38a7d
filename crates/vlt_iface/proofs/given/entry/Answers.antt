use Rattle.std.proofs.Common.{option_map, ap, ◌∙◌}
use Rattle.vlt_iface.specs.Seen.{decl_seen}
use Rattle.vlt_iface.proofs.given.entry.Goals as goal

pub returns : goal.returns
returns c = ap (option_map decl_seen) (c.copied.ensures ∙ c.get.ensures.value)
