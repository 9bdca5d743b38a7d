use Rattle.std.proofs.Common.{◌≡◌, ◌++◌, drop, map}
use Rattle.vlt_core.specs.View.{keys_of, ty_of, field_of}
use Rattle.vlt_resolve_rights.specs.News as n
use Rattle.vlt_resolve_rights.proofs.objects.field_types.Given as goal

abbrev pub invariant-loop-field : goal.invariant-loop-field
invariant-loop-field l =
    map ty_of l.types ++ n.field_types (map field_of (drop l.field-index l.fields)) (keys_of l.args)
    ≡ n.field_types (map field_of l.fields) (keys_of l.args)
