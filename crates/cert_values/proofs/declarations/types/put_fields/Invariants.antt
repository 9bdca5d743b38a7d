use Rattle.std.proofs.Common.{◌≡◌, map, drop}
use Rattle.serde_json.specs.View.{items_of}
use Rattle.vlt_core.specs.View.{field_of}
use Rattle.cert_rows.specs.Values.{field}
use Rattle.cert_values.specs.Laid.{items_laid}
use Rattle.cert_values.proofs.declarations.types.put_fields.Given as goal

-- what is left, after what was written, is the whole
abbrev pub invariant-loop-field : goal.invariant-loop-field
invariant-loop-field l =
    items_laid (items_of (map field.data_of (map field_of (drop l.field-index l.fields)))) l.out ≡ items_laid (items_of (map field.data_of (map field_of l.fields))) l.initial.out
