use Rattle.std.proofs.Common.{◌≡◌, map, drop}
use Rattle.std.specs.List.{position, position_from}
use Rattle.std.specs.Str.{bytes_eq}
use Rattle.vlt_syntax.specs.View.{name_of}
use Rattle.vlt_core.specs.View.{field_of}
use Rattle.vlt_resolve_exprs.proofs.exprs.find_field.Given as goal

abbrev pub invariant-loop-i : goal.invariant-loop-i
invariant-loop-i l =
    position (λ d. bytes_eq (name_of l.name).text d.name) (map field_of l.fields)
    ≡ position_from (λ d. bytes_eq (name_of l.name).text d.name) l.i (map field_of (drop l.i l.fields))
