use Rattle.std.proofs.Common.{◌≡◌, map, drop}
use Rattle.serde_json.specs.View.{items_of}
use Rattle.std.proofs.Common.{true}
use Rattle.vlt_core.specs.View.{entry_of}
use Rattle.cert_rows.specs.Values.{entry}
use Rattle.cert_values.specs.Laid.{items_laid}
use Rattle.cert_values.proofs.declarations.heads.put_clause.Given as goal

-- what is left, after what was written, is the whole
abbrev pub invariant-loop-entry : goal.invariant-loop-entry
invariant-loop-entry l =
    items_laid (items_of (map (entry true).data_of (map entry_of (drop l.entry-index l.clause)))) l.out ≡ items_laid (items_of (map (entry true).data_of (map entry_of l.clause))) l.initial.out
