use Rattle.std.proofs.Common.{◌≡◌, map, drop}
use Rattle.serde_json.specs.View.{items_of}
use Rattle.vlt_core.specs.View.{ty_of}
use Rattle.cert_rows.specs.Values.{ty}
use Rattle.cert_values.specs.Laid.{items_laid}
use Rattle.cert_values.proofs.declarations.types.put_tys.Given as goal

-- what is left, after what was written, is the whole
abbrev pub invariant-loop-ty : goal.invariant-loop-ty
invariant-loop-ty l =
    items_laid (items_of (map ty.data_of (map ty_of (drop l.ty-index l.tys)))) l.out ≡ items_laid (items_of (map ty.data_of (map ty_of l.tys))) l.initial.out
