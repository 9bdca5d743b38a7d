use Rattle.std.proofs.Common.{◌≡◌, ◌++◌, drop, map}
use Rattle.vlt_syntax.specs.View.{parameter_of}
use Rattle.vlt_syntax_copies.specs.Mapped as m
use Rattle.vlt_syntax_copies.specs.Shifted as s
use Rattle.vlt_syntax_copies.proofs.heads.shifted_parameters.Given as goal

abbrev pub invariant-loop-parameter : goal.invariant-loop-parameter
invariant-loop-parameter l = map parameter_of l.made ++ map (m.mapped_parameter (s.shifted_span l.by)) (map parameter_of (drop l.parameter-index l.parameters)) ≡ map (m.mapped_parameter (s.shifted_span l.by)) (map parameter_of l.parameters)
