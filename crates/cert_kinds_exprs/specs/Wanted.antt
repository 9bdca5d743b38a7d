-- The types that operands are wanted for, as plain data.
use Rattle.std.specs.Prelude.{List, [], map}
use Rattle.vlt_core.specs.Core.{Ty}
use Rattle.vlt_core.specs.Types.{with_keys}
use Rattle.vlt_core.specs.View.{ty_of, keys_of, field_of}
use Rattle.cert_kinds_exprs.specs.declared.wanted.Wanted.{Wanted}
use Rattle.cert_kinds_exprs.specs.declared.wanted.Wanted.TheVariants as wanted

-- the types, one after another
abbrev pub wanted_types : Wanted → List Ty
wanted_types wanted.Nothing = []
wanted_types (wanted.Fields fields args) = map (λ d. with_keys (keys_of args.now) d.ty) (map field_of fields.now)
wanted_types (wanted.Payload payload args) = map (with_keys (keys_of args.now)) (map ty_of payload.now)
