use Rattle.std.proofs.Common.{◌≡◌, ◌++◌, drop, map}
use Rattle.vlt_core.specs.View.{keys_of, ty_of, field_of}
use Rattle.vlt_elaboration.specs.Statements as s
use Rattle.vlt_resolve_changes.proofs.opens.owning_types.Given as goal

abbrev pub invariant-loop-field : goal.invariant-loop-field
invariant-loop-field l =
    map ty_of l.types ++ s.owning_types (keys_of l.args) (map field_of (drop l.field-index l.fields))
    ≡ s.owning_types (keys_of l.args) (map field_of l.fields)
