use Rattle.std.proofs.Common.{◌≡◌, map, drop}
use Rattle.serde_json.specs.View.{items_of}
use Rattle.cert_rows.specs.Parts.{minus_data, nat}
use Rattle.vlt_core.specs.View.{header_of}
use Rattle.cert_values.specs.Laid.{items_laid}
use Rattle.cert_values.proofs.declarations.types.put_header.Given as goal

-- what is left, after what was written, is the whole
abbrev pub invariant-loop-id : goal.invariant-loop-id
invariant-loop-id l =
    items_laid (items_of (map (minus_data nat) (header_of (drop l.id-index l.header)))) l.out ≡ items_laid (items_of (map (minus_data nat) (header_of l.header))) l.initial.out
