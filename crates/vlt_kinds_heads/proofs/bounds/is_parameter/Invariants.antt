use Rattle.std.proofs.Common.{◌≡◌, drop, map}
use Rattle.vlt_syntax.specs.View as view
use Rattle.vlt_kinds_heads.specs.Bounds as b
use Rattle.vlt_kinds_heads.proofs.bounds.is_parameter.Given as goal

abbrev pub invariant-loop-parameter : goal.invariant-loop-parameter
invariant-loop-parameter l =
    b.is_parameter (map view.parameter_of l.parameters) (view.name_of l.name).text
    ≡ b.is_parameter (map view.parameter_of (drop l.parameter-index l.parameters)) (view.name_of l.name).text
