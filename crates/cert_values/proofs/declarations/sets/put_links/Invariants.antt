use Rattle.std.proofs.Common.{◌≡◌, map, drop}
use Rattle.serde_json.specs.View.{items_of}
use Rattle.vlt_core.specs.View.{link_of}
use Rattle.cert_rows.specs.Rows.{link}
use Rattle.cert_values.specs.Laid.{items_laid}
use Rattle.cert_values.proofs.declarations.sets.put_links.Given as goal

-- what is left, after what was written, is the whole
abbrev pub invariant-loop-link : goal.invariant-loop-link
invariant-loop-link l =
    items_laid (items_of (map link.data_of (map link_of (drop l.link-index l.links)))) l.out ≡ items_laid (items_of (map link.data_of (map link_of l.links))) l.initial.out
