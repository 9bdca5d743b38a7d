use Rattle.std.proofs.Common.{◌≡◌, ◌++◌, drop, map}
use Rattle.std.specs.List.{flat_map}
use Rattle.vlt_syntax.specs.View as view
use Rattle.vlt_iface.specs.Texts.{texts_seen, parameter_texts}
use Rattle.vlt_iface.proofs.bound.add_parameters.Given as goal

abbrev pub invariant-loop-parameter : goal.invariant-loop-parameter
invariant-loop-parameter l =
    texts_seen l.texts ++ flat_map parameter_texts (map view.parameter_of (drop l.parameter-index l.parameters)) ≡
    texts_seen l.initial.texts ++ flat_map parameter_texts (map view.parameter_of l.parameters)
